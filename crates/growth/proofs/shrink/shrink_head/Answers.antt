-- `growth::shrink::shrink_head` meets its contract. Assumes nothing.
use native.Mathlib.Omega.{arith}
use Rattle.growth.proofs.Shrinks.{shrink-back, shrink-empty, shrink-lower, shrink-block}
use Rattle.growth.proofs.shrink.shrink_head.Goals as goal

pub returns-in-0 : goal.returns-in-0
returns-in-0 c = shrink-empty c.requires _ (omega arith) c.empty.ensures

pub returns-in-512 : goal.returns-in-512
returns-in-512 c = shrink-lower c.requires _ (omega arith) c.lower.ensures

pub returns-in_default : goal.returns-in_default
returns-in_default c = shrink-block c.requires _ (omega arith) (omega arith) c.block.ensures

pub returns-in_default-2 : goal.returns-in_default-2
returns-in_default-2 c = shrink-back c.requires _ (omega arith) c.back.ensures
