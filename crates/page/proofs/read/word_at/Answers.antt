-- `page::read::word_at` meets its contract. Assumes nothing.
use mathlib.Core.Path.{sym}
use native.Mathlib.Omega.{arith}
use Rattle.book.specs.Written.{vol-in}
use Rattle.page.proofs.read.word_at.Goals as goal

pub returns : goal.returns
returns c = sym (vol-in c.args.img.now c.args.p c.args.k (omega arith))
