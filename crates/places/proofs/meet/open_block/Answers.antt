-- `places::meet::open_block` meets its contract. Assumes nothing.
use Rattle.places.proofs.Meeting.{opening-first, opening-second}
use Rattle.places.proofs.meet.open_block.Goals as goal

pub returns-then-mark : goal.returns-then-mark
returns-then-mark c = rw c.if-mark.true (opening-first _ c.args.t _ c.mark.result c.mark.ensures c.if-mark.true)

pub returns-else-mark : goal.returns-else-mark
returns-else-mark c = opening-second _ c.args.t _ c.mark.result c.mark.ensures c.if-mark.false _ c.mark-else-mark.result c.mark-else-mark.ensures
