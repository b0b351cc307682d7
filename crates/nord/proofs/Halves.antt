-- What the proofs of the calls use, in both halves. Assumes nothing.
pub use mathlib.Core.Path.{refl, ap, ◌∙◌}
pub use mathlib.Core.Logic.{inl}
pub use borrow.Author.Rules.{rules}
unfoldable pub use Rattle.book.specs.Rows.{Lowest, Clear}
unfoldable pub use Rattle.book.specs.Outcome.{call}
pub use Rattle.book.specs.Enter.{entered, fit}
pub use Rattle.book.specs.Return.{shut, refused, finished}
pub use Rattle.book.specs.declared.Refusal.TheVariants.{Missing, Fill}
