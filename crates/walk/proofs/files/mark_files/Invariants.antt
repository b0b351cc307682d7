use Rattle.book.specs.Image.{pages}
use Rattle.walk.specs.Walked.{WalkedOn}
use Rattle.walk.proofs.Walks.{row_of}
use Rattle.walk.proofs.Entries.{positions_of}
use Rattle.walk.proofs.files.mark_files.Given as goal

abbrev pub invariant-loop-n : goal.invariant-loop-n
invariant-loop-n l = WalkedOn (pages l.img) l.initial.marks l.visited (row_of (positions_of l.img) l.n) l.marks l.v
