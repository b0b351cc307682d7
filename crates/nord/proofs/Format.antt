-- How format comes back: refused with 1 or 2, or done. Assumes nothing.
use mathlib.Core.Path.{◌≡◌, refl}
use mathlib.Core.Logic.{inl, inr}
use mathlib.Core.List.{List}
use Prim.Native.Nat.{ℕ}
use native.Mathlib.Omega.{arith}
use lib.ListN.{length}
use Rattle.book.specs.Words.{vol}
use Rattle.book.specs.Names.{NameText}
use Rattle.book.specs.Format.{format}
use Rattle.book.specs.Image.{pages, Whole, BitArg}
use Rattle.book.specs.Rows.{Lowest, Clear}
use Rattle.book.specs.Answers.{done_with, refused_with}
use Rattle.book.specs.Outcome.{Outcome, BrokenFor}
use Rattle.book.specs.Calls.{format_call}
use Rattle.book.specs.declared.Refusal.TheVariants.{Size, Argument}

module _ (img name : List ℕ) (b : ℕ) where
  pub format_size : (Whole img → ⊥) → Outcome (format_call img name b) img (refused_with 0 Size) img
  unfolding Outcome BrokenFor format_call Lowest
  format_size h = inl record { number = inl (refl, h); value = refl; broken = (λ e. let z : ⊥ = omega (arith, e) in absurd z, λ e. refl); image = refl }

  pub format_argument : Whole img → (NameText name × BitArg (pages img) b → ⊥) → Outcome (format_call img name b) img (refused_with 0 Argument) img
  unfolding Outcome BrokenFor format_call Lowest
  format_argument W h = inl record { number = inr (W, inl (refl, h)); value = refl; broken = (λ e. let z : ⊥ = omega (arith, e) in absurd z, λ e. refl); image = refl }

  pub format_done : Whole img → NameText name × BitArg (pages img) b → (img' : List ℕ) → vol img' ≡ format (pages img) (vol img) name b → length img' ≡ length img → Outcome (format_call img name b) img (done_with 0) img'
  unfolding Outcome format_call Clear
  format_done W a img' e l = inr record { number = refl; clear = (W, (a, tt)); value = refl; broken = refl; image = e; size = l }

pub ruleset formats = (format_size, format_argument, format_done)
