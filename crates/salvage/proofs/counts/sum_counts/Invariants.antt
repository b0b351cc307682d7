use Rattle.std.proofs.Common.{◌≡◌, ◌*◌, ◌≤◌, get_or}
use Rattle.sums.specs.Sum.{sum as sum_of}
use Rattle.salvage.proofs.counts.sum_counts.Given as goal

abbrev pub invariant-loop-n : goal.invariant-loop-n
invariant-loop-n l = (l.sum ≡ sum_of l.n-index (λ i. get_or l.counts i 0)) × (l.sum ≤ l.n-index * 4294967296)
