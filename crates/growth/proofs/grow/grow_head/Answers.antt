-- `growth::grow::grow_head` meets its contract. Assumes nothing.
use native.Mathlib.Omega.{arith}
use Rattle.growth.proofs.Phases.{grow-onward, grow_first, grow-raise, grow-block}
use Rattle.growth.proofs.grow.grow_head.Goals as goal

pub returns-in-0 : goal.returns-in-0
returns-in-0 c = grow_first c.requires _ _ (omega arith) c.first.ensures

pub returns-in-512 : goal.returns-in-512
returns-in-512 c = grow-raise c.requires _ _ (omega arith) c.raise.ensures

pub returns-in_default : goal.returns-in_default
returns-in_default c = grow-block c.requires _ _ (omega arith) (omega arith) c.block.ensures

pub returns-in_default-2 : goal.returns-in_default-2
returns-in_default-2 c = grow-onward c.requires _ _ (omega arith) c.onward.ensures
