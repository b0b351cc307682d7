use Prim.Native.Nat.{◌*◌}
use Rattle.book.specs.Words.{vol}
use Rattle.tree.specs.Ends.{TreeEnd}
use Rattle.tree.proofs.ends.tree_end.Given as goal

abbrev pub invariant-loop-i : goal.invariant-loop-i
invariant-loop-i l = TreeEnd (vol l.img) l.t (512 * l.i)
