-- `bits::word::digit_in` meets its contract. Assumes nothing.
use mathlib.Core.Path.{sym}
use native.Mathlib.Omega.{arith}
use Rattle.bits.proofs.Digits.{digit-is}
use Rattle.bits.proofs.word.digit_in.Goals as goal

pub returns : goal.returns
returns c = (sym (digit-is c.args.j c.args.w), omega arith)
