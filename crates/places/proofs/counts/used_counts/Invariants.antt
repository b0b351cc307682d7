use Rattle.places.specs.Found.{count_row}
use Rattle.book.specs.Spots.{Passed}
use Rattle.book.specs.Words.{vol}
use Rattle.places.proofs.counts.used_counts.Given as goal

abbrev pub invariant-loop-u : goal.invariant-loop-u
invariant-loop-u l = Passed (count_row (vol l.img)) l.u
