use Rattle.tree.proofs.Blocks.{decides-row}
use native.Mathlib.Omega.{arith}
use Rattle.tree.proofs.block.unlinked.Goals as goal

pub returns : goal.returns
returns c = decides-row c.args.block.now c.args.n c.args.z (omega arith) (omega arith) c.blank.result c.blank.ensures
