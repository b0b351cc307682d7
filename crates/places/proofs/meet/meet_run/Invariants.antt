use Rattle.places.specs.Low.{Meets}
use Rattle.book.specs.Holders.{hit}
use Rattle.sums.specs.Sum.{sum}
use Prim.Native.Nat.{◌+◌}
use Rattle.places.proofs.meet.meet_run.Given as goal

abbrev pub invariant-loop-i : goal.invariant-loop-i
invariant-loop-i l = Meets l.initial.marks l.lowest (λ p. sum l.i (λ j. hit p (l.start + j))) l.marks l.low
