-- `listing::order::put_files` meets its contract. Assumes nothing.
use Prim.Native.Nat.{◌+◌, ◌*◌, ◌≤◌}
use Rattle.book.specs.Words.{vol}
use Rattle.book.specs.Listing.{joined, file_of}
use Rattle.listing.specs.Wrote.{Wrote}
use Rattle.listing.proofs.order.put_files.Given as goal

abbrev pub invariant-loop-i : goal.invariant-loop-i
invariant-loop-i l = (l.z ≤ l.at + 4096 * l.i) × Wrote (joined (file_of (vol l.img) l.u) (32 * l.i)) l.initial.out l.at l.out l.z
