use Rattle.book.specs.Places.{May, pointers}
use Rattle.book.specs.Spots.{Passed}
use Rattle.book.specs.Pointers.{slot}
use Rattle.book.specs.Image.{pages}
use Rattle.book.specs.Words.{vol}
use Rattle.places.proofs.index.four_blocks.Given as goal

abbrev pub invariant-loop-i : goal.invariant-loop-i
invariant-loop-i l = Passed (λ k. pointers (vol l.img) (slot (vol l.img) l.t k) (May (pages l.img) 512)) l.i
