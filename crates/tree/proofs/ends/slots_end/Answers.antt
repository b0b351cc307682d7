use Rattle.tree.proofs.Absent.{slots-none, slots-part}
use native.Mathlib.Omega.{arith}
use Rattle.tree.proofs.ends.slots_end.Goals as goal

pub returns-then-b-eq0 : goal.returns-then-b-eq0
returns-then-b-eq0 c = slots-none _ _ c.if-b-eq0.true

pub returns : goal.returns
returns c = slots-part c.args.img.now c.args.b c.block_end.result (omega arith) c.block_end.ensures
