use Rattle.places.proofs.Pointed.{slot_row}
use Rattle.book.specs.Spots.{Passed}
use Rattle.book.specs.Image.{pages}
use Rattle.book.specs.Words.{vol}
use Rattle.places.proofs.block.block.Given as goal

abbrev pub invariant-loop-s : goal.invariant-loop-s
invariant-loop-s l = Passed (slot_row (pages l.img) (vol l.img) l.b l.least l.m) l.s
