-- the words passed are those of `data`
use lib.ListN.{get_or}
use Rattle.page.specs.Parts.{Begins}
use Rattle.page.proofs.write.copy_page.Given as goal

abbrev pub invariant-loop-k : goal.invariant-loop-k
invariant-loop-k l = Begins l.k l.part (λ k. get_or l.«data» k 0)
