-- `walk::pages::mark_pages` meets its contract. Assumes nothing.
use Rattle.std.proofs.Common.{arith}
use Rattle.walk.proofs.Pointers.{below_top}
use Rattle.walk.proofs.pages.mark_pages.Goals as goal

pub is_row-requires : goal.is_row-requires
is_row-requires c = (c.requires.1.size, c.requires.2, omega (arith, below_top _ _ 0 _ (c.requires.1.below 1 (omega arith)), c.requires.0.few))
