use Rattle.book.specs.Places.{user_row}
use Rattle.book.specs.Spots.{Passed}
use Rattle.book.specs.Words.{vol}
use Rattle.places.proofs.users.first4.Given as goal

abbrev pub invariant-loop-u : goal.invariant-loop-u
invariant-loop-u l = Passed (user_row l.ten (vol l.img)) l.u
