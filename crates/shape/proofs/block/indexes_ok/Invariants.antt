use Rattle.book.specs.Image.{pages}
use Rattle.book.specs.Words.{vol}
use Rattle.shape.specs.Seen.{Known}
use Rattle.shape.specs.Shapes.{Indexes}
use Rattle.shape.proofs.block.indexes_ok.Given as goal

abbrev pub invariant-loop-k : goal.invariant-loop-k
invariant-loop-k l = Known l.img l.seen × Indexes (pages l.img) (vol l.img) l.block l.n l.k
