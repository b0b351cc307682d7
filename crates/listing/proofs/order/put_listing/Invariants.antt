-- `listing::order::put_listing` meets its contract. Assumes nothing.
use Prim.Native.Nat.{◌+◌, ◌*◌, ◌≤◌}
use Rattle.book.specs.Words.{vol}
use Rattle.book.specs.Listing.{joined, user_lines}
use Rattle.listing.specs.Wrote.{Wrote}
use Rattle.listing.proofs.order.put_listing.Given as goal

abbrev pub invariant-loop-u : goal.invariant-loop-u
invariant-loop-u l = (l.z ≤ l.initial.z + 40000 * l.u) × Wrote (joined (user_lines (vol l.img)) l.u) l.initial.out l.initial.z l.out l.z
