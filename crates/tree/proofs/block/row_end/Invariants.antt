use Prim.Native.Nat.{◌*◌}
use Rattle.tree.specs.Blocks.{End}
use Rattle.tree.proofs.block.row_end.Given as goal

abbrev pub invariant-loop-row : goal.invariant-loop-row
invariant-loop-row l = End l.block (16 * l.row)
