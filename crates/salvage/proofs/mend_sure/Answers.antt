use native.Mathlib.Omega.{arith}
use Rattle.salvage.proofs.Collecting.{room}
use Rattle.salvage.proofs.Closing.{refused-14, told-within, done}
use Rattle.salvage.proofs.mend_sure.Goals as goal

pub returns-then-room-n : goal.returns-then-room-n
returns-then-room-n c = refused-14 _ _ _ c.collect-n.ensures.size c.requires.0.good.whole c.requires.0.good.pointed c.requires.0.affords (omega (arith, c.if-room-n.true, c.collect-n.ensures.count))

pub overflow_cast-value : goal.overflow_cast-value
overflow_cast-value c = omega (arith, room _ c.requires.0 _ _ c.collect-n.result c.collect-n.ensures)

pub apply-requires : goal.apply-requires
apply-requires c = (omega (arith, room _ c.requires.0 _ _ c.collect-n.result c.collect-n.ensures), c.collect-n.ensures.size, told-within _ c.requires.0 _ c.collect-n.result c.collect-n.ensures)

pub returns : goal.returns
returns c = done _ c.requires.0 _ c.collect-n.result c.collect-n.ensures c.args.room _ (omega arith) c.apply.ensures
