use Prim.Native.Nat.{◌+◌, ◌*◌}
use borrow.Author.Count.{below_more}
use Rattle.tree.proofs.Blocks.{wrong-at}
use native.Mathlib.Omega.{arith}
use Rattle.tree.proofs.block.linked.Goals as goal

pub loop-i-preserved : goal.loop-i-preserved
loop-i-preserved c =
    let w = wrong-at c.args.block.now c.loop-i.i c.args.least (c.args.top * 65536 + c.args.rest) c.wrong-bad.result c.wrong-bad.ensures in (
      omega (arith, w.most),
      (λ z. below_more _ c.loop-i.i (c.loop-i.invariant.1 (omega arith)) (w.right (omega arith))),
      λ h. let p = h c.loop-i.i (omega arith) in omega (arith, c.loop-i.invariant.2 (λ k j. h k (omega arith)), w.none p.0 p.1),
    )
