-- `growth::shrink::lower` meets its contract. Assumes nothing.
use native.Mathlib.Omega.{arith}
use mathlib.Core.Path.{refl}
use Rattle.growth.proofs.Files.{file-used-lt, can-enter, file-paid}
use Rattle.growth.proofs.Shrinks.{some, block-lt, top_lt, lower-is}
use Rattle.growth.proofs.shrink.lower.Goals as goal

pub slot_at-left-requires : goal.slot_at-left-requires
slot_at-left-requires c = (omega (arith, top_lt c.requires.0), omega arith)

pub slot_at-b-requires : goal.slot_at-b-requires
slot_at-b-requires c = (omega (arith, top_lt c.requires.0), omega arith)

pub slot_at-d-requires : goal.slot_at-d-requires
slot_at-d-requires c = (omega (arith, (block-lt c.requires.0 (omega arith) 1 _ _ (omega arith) c.slot_at-b.ensures.0 refl).0), omega arith)

pub overflow_sub-h : goal.overflow_sub-h
overflow_sub-h c = omega (arith, file-paid c.requires.0.at c.requires.0.kind.0 (some c.requires.0))

pub enter-requires : goal.enter-requires
enter-requires c = can-enter c.requires.0.at _ _ _ _ _ (omega arith) (omega arith) (omega arith) (block-lt c.requires.0 (omega arith) 0 _ _ (omega arith) c.slot_at-left.ensures.0 refl).0 (omega (arith, file-used-lt c.requires.0.at))

pub clear-requires : goal.clear-requires
clear-requires c =
    let lt = block-lt c.requires.0 (omega arith) 1 _ _ (omega arith) c.slot_at-b.ensures.0 c.slot_at-d.ensures.0 in
    omega (arith, lt.1)

pub clear-requires-2 : goal.clear-requires-2
clear-requires-2 c =
    let lt = block-lt c.requires.0 (omega arith) 1 _ _ (omega arith) c.slot_at-b.ensures.0 c.slot_at-d.ensures.0 in
    omega (arith, lt.0)

pub clear-requires-3 : goal.clear-requires-3
clear-requires-3 c = omega (arith, top_lt c.requires.0)

pub returns : goal.returns
returns c = lower-is c.requires.0 c.requires.1 _ _ _ _ _ _ _ c.slot_at-left.ensures.0 c.slot_at-b.ensures.0 c.slot_at-d.ensures.0 c.enter.ensures c.clear.ensures c.clear-2.ensures c.clear-3.ensures
