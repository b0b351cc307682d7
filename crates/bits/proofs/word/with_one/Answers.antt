-- `bits::word::with_one` meets its contract. Assumes nothing.
use mathlib.Core.Path.{ap, ◌∙◌}
use Prim.Native.Nat.{ℕ}
use lib.Bits.{bit_or}
use Rattle.bits.proofs.Digits.{one-or}
use Rattle.bits.proofs.word.with_one.Goals as goal

pub returns : goal.returns
returns c = ap (λ (x : ℕ). bit_or c.args.w x) c.power.ensures ∙ one-or c.args.j c.args.w
