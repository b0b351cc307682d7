-- `bits::word::ones_below` meets its contract. Assumes nothing.
use mathlib.Core.Path.{ap, ◌∙◌}
use Prim.Native.Nat.{max}
use Rattle.book.specs.Bits.{digit}
use Rattle.bits.proofs.Digits.{digit_or, digit_ones}
use Rattle.bits.proofs.word.ones_below.Goals as goal

pub returns : goal.returns
returns c = λ j.
    digit_or j c.args.w c.low_ones.result ∙ ap (max (digit j c.args.w)) (ap (digit j) c.low_ones.ensures ∙ digit_ones j c.args.n)
