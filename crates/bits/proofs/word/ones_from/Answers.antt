-- `bits::word::ones_from` meets its contract. Assumes nothing.
use mathlib.Core.Path.{◌≡◌, ap, ◌∙◌}
use Prim.Native.Nat.{suc, ◌-◌, max}
use native.Mathlib.Omega.{arith}
use Rattle.book.specs.Bits.{digit}
use Rattle.bits.proofs.Digits.{digit_or, digit_not, digit_ones}
use Rattle.bits.proofs.word.ones_from.Goals as goal

pub returns : goal.returns
returns c = λ j h.
    let d : digit j c.low_ones.result ≡ 1 - (suc j - c.args.n) = ap (digit j) c.low_ones.ensures ∙ digit_ones j c.args.n in
    digit_or j c.args.w (65535 - c.low_ones.result) ∙ ap (max (digit j c.args.w)) (omega (arith, digit_not j 16 c.low_ones.result h (omega arith), d))
