use mathlib.Core.Path.{◌≡◌}
use Prim.Native.Nat.{◌+◌, ◌*◌, ◌≤◌}
use Rattle.sums.specs.Sum.{sum as sum_of}
use Rattle.book.specs.Entries.{user}
use Rattle.book.specs.Words.{vol}
use Rattle.shape.specs.Counts.{count_in}
use Rattle.shape.proofs.tally.page_sum.Given as goal

abbrev pub invariant-loop-i : goal.invariant-loop-i
invariant-loop-i l = (l.sum ≡ sum_of l.i (λ j. count_in l.k (user (vol l.img) (l.first + j)))) × (l.sum ≤ l.i * 4294967296)
