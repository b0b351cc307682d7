-- `page::names::end_at` meets its contract. Assumes nothing.
use mathlib.Core.Path.{◌≡◌}
use Prim.Native.Nat.{ℕ, ◌<◌}
use Rattle.book.specs.Words.{vol}
use Rattle.book.specs.Names.{byte_at, ends}
use Rattle.page.proofs.names.end_at.Given as goal

-- none of the bytes passed ends a name
abbrev pub invariant-loop-i : goal.invariant-loop-i
invariant-loop-i l = (j : ℕ) → j < l.i → ends (byte_at (vol l.img l.p) l.k j) ≡ 0
