use Rattle.book.specs.Image.{pages}
use Rattle.walk.specs.Walked.{WalkedOn}
use Rattle.walk.proofs.Walks.{row_of}
use Rattle.walk.proofs.Runs.{run_of}
use Rattle.walk.proofs.run.mark_each.Given as goal

abbrev pub invariant-loop-i : goal.invariant-loop-i
invariant-loop-i l = WalkedOn (pages l.img) l.initial.marks l.visited (row_of (run_of l.start) l.i) l.marks l.v
