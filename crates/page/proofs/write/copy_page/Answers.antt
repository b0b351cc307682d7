-- `page::write::copy_page` meets its contract. Assumes nothing.
use Prim.Native.Nat.{◌*◌}
use native.Mathlib.Omega.{arith}
use Rattle.page.proofs.Parts.{vol-part}
use Rattle.page.proofs.write.copy_page.Goals as goal

pub returns : goal.returns
returns c =
    vol-part c.args.img.now c.loop-k.part (1024 * c.args.p) c.args.p 0 1024 _ (omega arith) (omega arith) (omega arith) c.loop-k.auto.part
    (λ k h. c.loop-k.invariant k (omega arith))
