use Rattle.book.specs.Words.{vol}
use Rattle.salvage.specs.Facts.{CountsBelow}
use Rattle.salvage.proofs.counts.count_all.Given as goal

abbrev pub invariant-loop-u : goal.invariant-loop-u
invariant-loop-u l = CountsBelow (vol l.img) l.u l.counts
