-- `page::names::packed_word` meets its contract. Assumes nothing.
use native.Mathlib.Omega.{arith}
use Rattle.book.specs.Names.{words_of, packed_by}
use Rattle.page.proofs.names.packed_word.Goals as goal

pub returns : goal.returns
unfolding packed_by words_of
returns c = omega (arith, c.from_be_bytes.ensures)
