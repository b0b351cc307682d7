-- `walk::run::mark_words` meets its contract. Assumes nothing.
use Prim.Native.Nat.{◌*◌}
use Rattle.book.specs.Image.{pages}
use Rattle.walk.specs.Walked.{WalkedOn}
use Rattle.walk.proofs.Walks.{row_of}
use Rattle.walk.proofs.Runs.{run_of}
use Rattle.walk.proofs.run.mark_words.Given as goal

abbrev pub invariant-loop-i : goal.invariant-loop-i
invariant-loop-i l = WalkedOn (pages l.img) l.initial.marks l.visited (row_of (run_of (16 * l.w)) (16 * l.i)) l.marks l.v
