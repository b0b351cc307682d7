use Rattle.book.specs.Image.{pages}
use Rattle.walk.specs.Walked.{WalkedOn}
use Rattle.walk.proofs.Walks.{row_of}
use Rattle.walk.proofs.Pointers.{slots_of}
use Rattle.walk.proofs.pages.mark_slots.Given as goal

abbrev pub invariant-loop-i : goal.invariant-loop-i
invariant-loop-i l = WalkedOn (pages l.img) l.initial.marks l.visited (row_of (slots_of l.img 0 l.block) l.i) l.marks l.v
