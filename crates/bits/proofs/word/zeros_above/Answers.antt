-- `bits::word::zeros_above` meets its contract. Assumes nothing.
use native.Mathlib.Omega.{arith}
use lib.Count.{leading_le}
use Rattle.bits.proofs.Digits.{leading-above, leading_at}
use Rattle.bits.proofs.word.zeros_above.Goals as goal

pub returns : goal.returns
returns c = record { most = leading_le 16 c.args.w; zeros = λ j h. leading-above 16 c.args.w j (omega arith) h; there = λ j e. leading_at 16 c.args.w j (omega arith) e }
