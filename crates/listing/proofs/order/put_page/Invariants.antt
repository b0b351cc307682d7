-- `listing::order::put_page` meets its contract. Assumes nothing.
use Prim.Native.Nat.{ℕ, ◌+◌, ◌*◌, ◌≤◌}
use Rattle.book.specs.Words.{vol}
use Rattle.book.specs.Listing.{joined, file_of}
use Rattle.listing.specs.Wrote.{Wrote}
use Rattle.listing.proofs.order.put_page.Given as goal

abbrev pub invariant-loop-k : goal.invariant-loop-k
invariant-loop-k l = (l.z ≤ l.at + 128 * l.k) × Wrote (joined (λ (j : ℕ). file_of (vol l.img) l.u (32 * l.i + j)) l.k) l.initial.out l.at l.out l.z
