use Rattle.book.specs.Places.{pointers, Must}
use Rattle.book.specs.Spots.{Passed}
use Rattle.book.specs.Image.{pages}
use Rattle.book.specs.Pointers.{slot}
use Rattle.book.specs.Words.{vol}
use Prim.Native.Nat.{◌-◌, ◌*◌}
use Rattle.places.proofs.file.indexes.Given as goal

abbrev pub invariant-loop-i : goal.invariant-loop-i
invariant-loop-i l = Passed (λ j. pointers (vol l.img) (slot (vol l.img) l.t j) (Must (pages l.img) (l.n - j * 512))) l.i
