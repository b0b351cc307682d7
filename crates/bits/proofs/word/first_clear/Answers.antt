-- `bits::word::first_clear` meets its contract. Assumes nothing.
use native.Mathlib.Omega.{arith}
use Rattle.book.specs.Written.{digit-le}
use Rattle.bits.proofs.Digits.{digit_not}
use Rattle.bits.proofs.word.first_clear.Goals as goal

pub returns : goal.returns
returns c =
    let w = c.args.w in
    let z = c.zeros_below.ensures in
    record {
      most = z.most;
      below = λ j h. omega (arith, z.zeros j h, digit_not j 16 w (omega (arith, z.most)) (omega arith), digit-le j w);
      there = λ h. omega (arith, z.there h, digit_not c.zeros_below.result 16 w h (omega arith), digit-le c.zeros_below.result w);
    }
