use Prim.Native.Nat.{◌-◌}
use mathlib.Core.Path.{refl}
use Rattle.laws.specs.Tree.Positions.{slots-two}
use native.Mathlib.Omega.{arith}
use Rattle.tree.proofs.ends.tree_end.Goals as goal

pub slot_at-requires : goal.slot_at-requires
slot_at-requires c = (omega (arith, (slots-two _ _ 2 c.args.t 0 c.requires.below refl 0 0 (omega arith) (omega arith)).0), omega arith)

pub slots_end-n-requires : goal.slots_end-n-requires
slots_end-n-requires c = omega (arith, c.slot_at.ensures.0, (slots-two _ _ 2 c.args.t 0 c.requires.below refl (c.loop-i.i - 1) 0 (omega arith) (omega arith)).1)
