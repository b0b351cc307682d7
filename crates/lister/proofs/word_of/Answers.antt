-- The two bytes are a word of the image. Assumes nothing.
use Rattle.std.proofs.Common.{arith}
use Rattle.book.specs.Names.{words_of}
use Rattle.lister.proofs.word_of.Goals as goal

pub returns : goal.returns
unfolding words_of
returns c = omega (arith, c.from_be_bytes.ensures)
