-- `page::names::pack` meets its contract. Assumes nothing.
use Rattle.book.specs.Names.{packed}
use Rattle.page.specs.Parts.{Begins}
use Rattle.page.proofs.names.pack.Given as goal

-- the words passed are those of s as it is written
abbrev pub invariant-loop-i : goal.invariant-loop-i
invariant-loop-i l = Begins l.i l.part (packed l.s)
