use Rattle.places.specs.Low.{Meets}
use Rattle.book.specs.Trees.{weigh}
use Rattle.book.specs.Pointers.{slot}
use Rattle.book.specs.Words.{vol}
use Rattle.book.specs.Holders.{hit}
use Rattle.sums.specs.Sum.{sum}
use Rattle.places.proofs.meet.meet_pages.Given as goal

abbrev pub invariant-loop-k : goal.invariant-loop-k
invariant-loop-k l = Meets l.initial.marks l.lowest (λ p. sum l.k (λ j. weigh (vol l.img) 0 (slot (vol l.img) l.t j) (hit p))) l.marks l.low
