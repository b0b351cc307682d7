-- `bits::claim_run` meets its contract. Assumes nothing.
use mathlib.Core.Path.{◌≡◌}
use Prim.Native.Nat.{ℕ, ◌+◌, ◌-◌, ◌≤◌}
use Rattle.book.specs.Words.{vol}
use Rattle.book.specs.Bits.{claim_run}
use Rattle.bits.specs.File.{BitsAt}
use Rattle.bits.proofs.claim_run.Given as goal

-- the pages passed are taken
abbrev pub invariant-loop-p : goal.invariant-loop-p
invariant-loop-p l = (P : ℕ) → BitsAt P (vol l.initial.img) l.b → l.s + l.n ≤ P → vol l.img ≡ claim_run P (vol l.initial.img) l.s (l.p - l.s)
