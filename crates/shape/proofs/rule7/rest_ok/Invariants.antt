use Prim.Native.Nat.{◌*◌}
use Rattle.book.specs.Image.{pages}
use Rattle.book.specs.Words.{vol}
use Rattle.shape.specs.Seen.{Recalled}
use Rattle.shape.specs.Shapes.{FilesRight}
use Rattle.shape.proofs.rule7.rest_ok.Given as goal

abbrev pub invariant-loop-n : goal.invariant-loop-n
invariant-loop-n l = Recalled l.img l.seen l.trees × FilesRight (pages l.img) (vol l.img) 0 (32 * l.n)
