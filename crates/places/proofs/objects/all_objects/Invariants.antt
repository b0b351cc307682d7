use Rattle.book.specs.Spots.{Passed}
use Rattle.book.specs.Words.{vol}
use Rattle.places.specs.Rows.{object_row}
use Rattle.places.proofs.objects.all_objects.Given as goal

abbrev pub invariant-loop-f : goal.invariant-loop-f
invariant-loop-f l = Passed (object_row (vol l.img) l.u) l.f
