use Rattle.book.specs.Image.{pages}
use Rattle.walk.specs.Walked.{WalkedOn}
use Rattle.walk.proofs.Walks.{row_of}
use Rattle.walk.proofs.Entries.{files_of}
use Rattle.walk.proofs.files.mark_entries.Given as goal

abbrev pub invariant-loop-i : goal.invariant-loop-i
invariant-loop-i l = WalkedOn (pages l.img) l.initial.marks l.visited (row_of (files_of l.img l.n) l.i) l.marks l.v
