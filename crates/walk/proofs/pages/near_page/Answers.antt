-- `walk::pages::near_page` meets its contract. Assumes nothing.
use Rattle.walk.proofs.Pointers.{low_read}
use Rattle.walk.proofs.pages.near_page.Goals as goal

pub returns : goal.returns
returns c = low_read c.args.block.now c.args.i c.from.result c.requires.2 c.from.ensures
