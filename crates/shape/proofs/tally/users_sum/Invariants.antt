use mathlib.Core.Path.{◌≡◌}
use Prim.Native.Nat.{◌*◌, ◌≤◌}
use Rattle.sums.specs.Sum.{sum as sum_of}
use Rattle.book.specs.Entries.{user}
use Rattle.book.specs.Words.{vol}
use Rattle.shape.specs.Counts.{count_in}
use Rattle.shape.proofs.tally.users_sum.Given as goal

abbrev pub invariant-loop-p : goal.invariant-loop-p
invariant-loop-p l = (l.sum ≡ sum_of (32 * l.p) (λ u. count_in l.k (user (vol l.img) u))) × (l.sum ≤ 32 * l.p * 4294967296)
