use mathlib.Core.Path.{sym, ◌∙◌}
use Prim.Native.Nat.{◌-◌}
use native.Mathlib.Omega.{arith}
use Rattle.tree.proofs.Blocks.{pointer_read, end_before}
use Rattle.tree.proofs.block.block_end.Goals as goal

pub loop-i-preserved : goal.loop-i-preserved
loop-i-preserved c = end_before _ c.loop-i.i (omega arith) c.loop-i.invariant (sym (pointer_read c.args.block.now (c.loop-i.i - 1) _ c.dword.ensures.0) ∙ c.if-dword-ne0.false)
