-- `bits::word::zeros_below` meets its contract. Assumes nothing.
use lib.Count.{trailing_le}
use Rattle.bits.proofs.Digits.{trailing_below, trailing_at}
use Rattle.bits.proofs.word.zeros_below.Goals as goal

pub returns : goal.returns
returns c = record { most = trailing_le 16 c.args.w; zeros = trailing_below 16 c.args.w; there = trailing_at 16 c.args.w }
