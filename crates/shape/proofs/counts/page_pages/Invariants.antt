use mathlib.Core.Path.{◌≡◌}
use Prim.Native.Nat.{◌+◌, ◌*◌, ◌≤◌}
use Rattle.sums.specs.Sum.{sum as sum_of}
use Rattle.book.specs.Entries.{object}
use Rattle.book.specs.Words.{vol}
use Rattle.laws.specs.Count.Charge.{entry_pages}
use Rattle.shape.proofs.counts.page_pages.Given as goal

abbrev pub invariant-loop-k : goal.invariant-loop-k
invariant-loop-k l = (l.sum ≡ sum_of l.k (λ i. entry_pages (object (vol l.img) (32 * l.n + i)))) × (l.sum ≤ l.k * 8589934592)
