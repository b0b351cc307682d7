-- `bits::word::low_bits` meets its contract. Assumes nothing.
use mathlib.Core.Path.{ap, ◌∙◌}
use lib.Bits.{bit_and, and_mask}
use Rattle.bits.proofs.word.low_bits.Goals as goal

pub returns : goal.returns
returns c = ap (bit_and c.args.w) c.low_ones.ensures ∙ and_mask c.args.w c.args.n
