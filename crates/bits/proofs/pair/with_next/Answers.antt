-- `bits::pair::with_next` meets its contract. Assumes nothing.
use mathlib.Core.Path.{ap, ◌∙◌}
use Prim.Native.Nat.{◌/◌, ◌^◌, min}
use Rattle.book.specs.Bits.{digit}
use Rattle.bits.proofs.Digits.{digit_and, digit-next}
use Rattle.bits.proofs.pair.with_next.Goals as goal

pub returns : goal.returns
returns c = λ j. digit_and j c.args.x (c.args.x / 2 ^ 1) ∙ ap (min (digit j c.args.x)) (digit-next j c.args.x)
