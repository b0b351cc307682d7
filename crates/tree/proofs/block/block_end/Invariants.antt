use Rattle.tree.specs.Blocks.{End}
use Rattle.tree.proofs.block.block_end.Given as goal

abbrev pub invariant-loop-i : goal.invariant-loop-i
invariant-loop-i l = End l.block l.i
