-- `page::names::put_text` meets its contract. Assumes nothing.
use Prim.Native.Nat.{◌+◌, ◌*◌}
use native.Mathlib.Omega.{arith}
use Rattle.book.specs.Names.{packed}
use Rattle.page.proofs.Parts.{vol-part}
use Rattle.page.proofs.names.put_text.Goals as goal

pub returns : goal.returns
returns c = vol-part c.args.img.now c.pack.new.part (1024 * c.args.p + c.args.k) c.args.p c.args.k c.args.n (packed c.args.s.now) (omega arith) (omega arith) (omega arith) c.pack.auto.part c.pack.ensures
