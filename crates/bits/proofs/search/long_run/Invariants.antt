-- `bits::search::long_run` meets its contract. Assumes nothing.
use Rattle.book.specs.Words.{vol}
use Rattle.bits.proofs.Downwards.{Downwards}
use Rattle.bits.proofs.search.long_run.Given as goal

abbrev pub invariant-loop-i : goal.invariant-loop-i
invariant-loop-i l = Downwards l.pages (vol l.img) l.n l.i l.w l.run
