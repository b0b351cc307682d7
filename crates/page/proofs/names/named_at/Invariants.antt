-- `page::names::named_at` meets its contract. Assumes nothing.
use mathlib.Core.Path.{◌≡◌}
use Prim.Native.Nat.{ℕ, ◌<◌}
use lib.ListN.{get_or}
use Rattle.book.specs.Words.{vol}
use Rattle.book.specs.Names.{byte_at}
use Rattle.page.proofs.names.named_at.Given as goal

-- the bytes passed are those of s
abbrev pub invariant-loop-i : goal.invariant-loop-i
invariant-loop-i l = (j : ℕ) → j < l.i → byte_at (vol l.img l.p) l.k j ≡ get_or l.s j 0
