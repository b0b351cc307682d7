-- `page::names::same_at` meets its contract. Assumes nothing.
use Rattle.book.specs.Words.{vol}
use Rattle.page.specs.Cut.{Alike}
use Rattle.page.proofs.names.same_at.Given as goal

-- the words passed are the same, and in none of them does a name end
abbrev pub invariant-loop-i : goal.invariant-loop-i
invariant-loop-i l = Alike l.n (vol l.img l.p) l.j (vol l.img l.q) l.k l.i
