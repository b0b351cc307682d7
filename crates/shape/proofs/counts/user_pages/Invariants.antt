use mathlib.Core.Path.{◌≡◌}
use Prim.Native.Nat.{◌+◌, ◌*◌, ◌≤◌}
use Rattle.sums.specs.Sum.{sum as sum_of}
use Rattle.book.specs.Words.{vol}
use Rattle.shape.specs.Counts.{pages_at}
use Rattle.shape.proofs.counts.user_pages.Given as goal

abbrev pub invariant-loop-i : goal.invariant-loop-i
invariant-loop-i l = (l.sum ≡ sum_of l.i (λ j. pages_at (vol l.img) (8 * l.u + j))) × (l.sum ≤ l.i * 274877906944)
