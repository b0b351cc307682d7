-- `bits::reserved` meets its contract. Assumes nothing.
use mathlib.Core.Path.{◌≡◌}
use Prim.Native.Nat.{◌*◌}
use Rattle.sums.specs.Sum.{sum}
use Rattle.book.specs.Words.{vol}
use Rattle.book.specs.Bits.{bit}
use Rattle.bits.proofs.reserved.Given as goal

-- n counts the bits of the words passed
abbrev pub invariant-loop-i : goal.invariant-loop-i
invariant-loop-i l = l.n ≡ sum (l.i * 16) (bit l.pages (vol l.img))
