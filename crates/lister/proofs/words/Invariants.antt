-- The words before i are those of the bytes. Assumes nothing.
use Rattle.book.specs.Names.{words_of}
use Rattle.page.specs.Parts.{Begins}
use Rattle.lister.proofs.words.Given as goal

abbrev pub invariant-loop-i : goal.invariant-loop-i
invariant-loop-i l = Begins l.i l.image (words_of l.s)
