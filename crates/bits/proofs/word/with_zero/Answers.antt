-- `bits::word::with_zero` meets its contract. Assumes nothing.
use mathlib.Core.Path.{ap, ◌∙◌}
use Prim.Native.Nat.{ℕ, ◌-◌}
use native.Mathlib.Omega.{arith}
use lib.Bits.{bit_and}
use Rattle.bits.proofs.Digits.{zero-and}
use Rattle.bits.proofs.word.with_zero.Goals as goal

pub returns : goal.returns
returns c = ap (λ (x : ℕ). bit_and c.args.w (65535 - x)) c.power.ensures ∙ zero-and c.args.j 16 c.args.w (omega arith) (omega arith)
