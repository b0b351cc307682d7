-- `growth::entries::enter` meets its contract. Assumes nothing.
use Rattle.book.specs.Grow.{finish}
use Rattle.growth.proofs.entries.enter.Goals as goal

pub returns : goal.returns
unfolding finish
returns c = cc
