-- `growth::grow::block` meets its contract. Assumes nothing.
use native.Mathlib.Omega.{arith}
use Prim.Native.Nat.{◌<◌}
use Rattle.growth.proofs.Files.{file-count-lt, file-used-lt, can-enter, file-top}
use Rattle.growth.proofs.Phases.{can-take₁, can-take₂, need-more, block-is}
use Rattle.growth.proofs.grow.block.Goals as goal

pub take-d-requires : goal.take-d-requires
take-d-requires c = can-take₁ c.requires.0

pub take-b-requires : goal.take-b-requires
take-b-requires c = can-take₂ c.requires.0 (need-more c.requires.0 c.requires.1 c.requires.2) _ _ _ c.take-d.ensures (omega arith)

pub set_slot-requires : goal.set_slot-requires
set_slot-requires c =
    let some : 0 < c.args.h.count = omega arith in
    (omega (arith, (file-top c.requires.0.at c.requires.0.kind some).1), omega (arith, file-count-lt c.requires.0.at), omega arith)

pub overflow_add-h : goal.overflow_add-h
overflow_add-h c = record { fits = omega (arith, file-used-lt c.requires.0.at) }

pub enter-requires : goal.enter-requires
enter-requires c =
    let some : 0 < c.args.h.count = omega arith in
    can-enter c.requires.0.at _ _ _ _ _ (omega arith) (omega (arith, file-count-lt c.requires.0.at)) (omega arith) (file-top c.requires.0.at c.requires.0.kind some).1 (omega (arith, file-used-lt c.requires.0.at))

pub returns : goal.returns
returns c = block-is c.requires.0 _ _ c.take-d.ensures _ _ _ (omega arith) c.take-b.ensures c.requires.1 c.requires.2 _ _ _ c.set_slot.ensures c.set_slot-2.ensures c.enter.ensures
