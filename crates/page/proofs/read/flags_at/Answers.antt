-- `page::read::flags_at` meets its contract. Assumes nothing.
use native.Mathlib.Omega.{arith}
use Rattle.book.specs.Pointers.{flags}
use Rattle.page.proofs.read.flags_at.Goals as goal

pub returns : goal.returns
unfolding flags
returns c = (rw c.word_at.ensures, omega arith)
