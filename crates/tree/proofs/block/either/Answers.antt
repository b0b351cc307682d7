use Rattle.tree.proofs.Blocks.{either_is}
use Rattle.tree.proofs.block.either.Goals as goal

pub returns : goal.returns
returns c = either_is c.args.a c.args.b
