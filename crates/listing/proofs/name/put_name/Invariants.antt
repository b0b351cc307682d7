-- `listing::name::put_name` meets its contract. Assumes nothing.
use Prim.Native.Nat.{◌+◌}
use Rattle.book.specs.Words.{vol}
use Rattle.book.specs.Names.{bytes}
use Rattle.listing.specs.Wrote.{Wrote}
use Rattle.listing.proofs.name.put_name.Given as goal

abbrev pub invariant-loop-i : goal.invariant-loop-i
invariant-loop-i l = Wrote (bytes (vol l.img l.p) l.k l.i) l.initial.out l.at l.out (l.at + l.i)
