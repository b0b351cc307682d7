use Rattle.book.specs.Places.{bit_row}
use Rattle.book.specs.Spots.{Passed}
use Rattle.book.specs.Image.{pages}
use Rattle.book.specs.Words.{vol}
use Rattle.places.proofs.reserved.first9.Given as goal

abbrev pub invariant-loop-p : goal.invariant-loop-p
invariant-loop-p l = Passed (bit_row (pages l.img) (vol l.img)) l.p
