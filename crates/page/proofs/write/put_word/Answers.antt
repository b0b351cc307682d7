-- `page::write::put_word` meets its contract. Assumes nothing.
use native.Mathlib.Omega.{arith}
use Rattle.book.specs.Written.{vol-set}
use Rattle.page.proofs.write.put_word.Goals as goal

pub returns : goal.returns
returns c = vol-set c.args.img.now c.args.p c.args.k c.args.x (omega arith) (omega arith)
