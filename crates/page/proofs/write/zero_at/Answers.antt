-- `page::write::zero_at` meets its contract. Assumes nothing.
use mathlib.Core.Path.{refl}
use Prim.Native.Nat.{◌+◌, ◌*◌}
use native.Mathlib.Omega.{arith}
use Rattle.book.specs.Words.{zeros}
use Rattle.page.proofs.Parts.{vol-part}
use Rattle.page.proofs.write.zero_at.Goals as goal

pub returns : goal.returns
returns c =
    vol-part c.args.img.now c.fill.new.self (1024 * c.args.p + c.args.k) c.args.p c.args.k c.args.n zeros (omega arith) (omega arith) (omega arith) c.fill.ensures.len
    (λ k h. c.fill.ensures.clones k 0 h refl)
