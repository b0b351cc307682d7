-- `bits::search::free_from` meets its contract. Assumes nothing.
use Rattle.book.specs.Words.{vol}
use Rattle.bits.proofs.Upwards.{Upwards}
use Rattle.bits.proofs.search.free_from.Given as goal

abbrev pub invariant-loop-i : goal.invariant-loop-i
invariant-loop-i l = Upwards l.pages (vol l.img) l.from l.i l.w
