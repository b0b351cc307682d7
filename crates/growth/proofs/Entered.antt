-- Entries are read off their pages. Assumes nothing.
use mathlib.Core.Path.{◌≡◌, ap, ◌∙◌}
use Prim.Native.Nat.{ℕ}
use Rattle.book.specs.Words.{Vol}
use Rattle.book.specs.Entries.{object, object_page}
use Rattle.tree.specs.Reach.{entry_in}
use Rattle.tree.proofs.Entries.{object-in}

-- entry e, which code has as i, on page q
module _ (v : Vol) (e i q : ℕ) (same : i ≡ e) (at : q ≡ object_page v i) where
  pub entry-at : q ≡ object_page v e
  entry-at = at ∙ ap (object_page v) same

  pub entry-words : entry_in v q i ≡ object v e
  entry-words = object-in v i q at ∙ ap (object v) same
