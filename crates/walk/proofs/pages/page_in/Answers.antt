-- `walk::pages::page_in` meets its contract. Assumes nothing.
use Rattle.tree.proofs.Blocks.{pointer_read}
use Rattle.walk.proofs.pages.page_in.Goals as goal

pub returns : goal.returns
returns c = pointer_read c.args.block.now c.args.i _ c.dword.ensures.0
