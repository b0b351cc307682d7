-- `convert::field::filled_at` meets its contract. Assumes nothing.
use mathlib.Core.Path.{◌≡◌}
use mathlib.Core.List.{[], ◌∷◌}
use Prim.Native.Nat.{ℕ, ◌-◌, ◌≤◌, ◌<◌}
use lib.ListN.{get_or}
use Rattle.book.specs.Words.{vol}
use Rattle.book.specs.Names.{byte_at}
use Rattle.convert.proofs.field.filled_at.Given as goal

-- the bytes passed are the fill's
abbrev pub invariant-loop-i : goal.invariant-loop-i
invariant-loop-i l = (j : ℕ) → l.l ≤ j → j < l.i → byte_at (vol l.img l.p) l.k j ≡ get_or (l.mark ∷ []) (j - l.l) 0
