-- `page::write::pointer_to` meets its contract. Assumes nothing.
use native.Mathlib.Omega.{arith}
use Rattle.book.specs.Pointers.{pointer}
use Rattle.page.proofs.write.pointer_to.Goals as goal

pub returns : goal.returns
unfolding pointer
returns c = omega arith
