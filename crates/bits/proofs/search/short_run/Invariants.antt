-- `bits::search::short_run` meets its contract. Assumes nothing.
use Rattle.book.specs.Words.{vol}
use Rattle.bits.proofs.Paired.{Paired}
use Rattle.bits.proofs.search.short_run.Given as goal

abbrev pub invariant-loop-i : goal.invariant-loop-i
invariant-loop-i l = Paired l.pages (vol l.img) l.n l.i l.x
