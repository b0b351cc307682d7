use mathlib.Core.Path.{◌≡◌}
use Prim.Native.Nat.{ℕ, ◌*◌, ◌<◌}
use Rattle.book.specs.Entries.{user_page}
use Rattle.book.specs.Words.{vol}
use Rattle.salvage.specs.Row.{RowTells}
use Rattle.salvage.proofs.collect.note_page.Given as goal

abbrev pub invariant-loop-i : goal.invariant-loop-i
invariant-loop-i l = ((j : ℕ) → j < l.i → user_page (vol l.img) (32 * j) ≡ l.p → ⊥) × RowTells l.img (1024 * l.p) l.row l.n
