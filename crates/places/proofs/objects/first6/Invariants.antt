use Rattle.book.specs.Spots.{each, Passed}
use Rattle.book.specs.Words.{vol}
use Rattle.places.specs.Rows.{object_row}
use Rattle.places.proofs.objects.first6.Given as goal

abbrev pub invariant-loop-u : goal.invariant-loop-u
invariant-loop-u l = Passed (λ w. each 256 (object_row (vol l.img) w)) l.u
