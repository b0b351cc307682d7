-- `bits::test` meets its contract. Assumes nothing.
use mathlib.Core.Path.{sym, ap, ◌∙◌}
use Prim.Native.Nat.{◌%◌}
use Rattle.book.specs.Words.{vol}
use Rattle.book.specs.Bits.{digit}
use Rattle.bits.proofs.Places.{bit_at}
use Rattle.bits.proofs.test.Goals as goal

pub returns : goal.returns
returns c = (λ P f h. c.digit_in.ensures.0 ∙ ap (digit (c.args.p % 16)) c.word_from.ensures ∙ sym (bit_at P (vol c.args.img.now) c.args.b f c.args.p h), c.digit_in.ensures.1)
