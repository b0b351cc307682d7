use Rattle.bits.specs.Marks.{marked}
use Rattle.bits.proofs.marks.mark_of.Goals as goal

pub returns : goal.returns
unfolding marked
returns c = c.digit_in.ensures
