use Rattle.places.specs.Low.{Meets₂}
use Rattle.book.specs.Files.{file_at}
use Rattle.book.specs.Trees.{weigh_r}
use Rattle.book.specs.Image.{pages}
use Rattle.book.specs.Words.{vol}
use Rattle.book.specs.Holders.{hit}
use Rattle.sums.specs.Sum.{sum}
use Rattle.places.proofs.held.meet_files.Given as goal

abbrev pub invariant-loop-e : goal.invariant-loop-e
invariant-loop-e l = Meets₂ (pages l.img) (vol l.img) l.initial.marks l.initial.ones l.initial.twos l.lowest (λ p. sum l.e (λ j. weigh_r (vol l.img) (file_at (vol l.img) j) (hit p))) l.marks l.ones l.twos l.low
