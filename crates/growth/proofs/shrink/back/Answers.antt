-- `growth::shrink::back` meets its contract. Assumes nothing.
use native.Mathlib.Omega.{arith}
use mathlib.Core.Path.{refl}
use Rattle.growth.proofs.Files.{file-used-lt, can-enter, flags-in, file-paid}
use Rattle.growth.proofs.Shrinks.{some, last-small, back-lt, top_lt, back_is}
use Rattle.growth.proofs.shrink.back.Goals as goal

pub index_of-i-requires : goal.index_of-i-requires
index_of-i-requires c = ((flags-in c.requires.0.at c.requires.0.kind.0 (some c.requires.0)).0, top_lt c.requires.0, last-small c.requires.0)

pub slot_at-d-requires : goal.slot_at-d-requires
slot_at-d-requires c = let lt = back-lt c.requires.0 _ _ c.index_of-i.ensures refl in (omega (arith, lt.0), omega arith)

pub set_slot-requires : goal.set_slot-requires
set_slot-requires c = let lt = back-lt c.requires.0 _ _ c.index_of-i.ensures c.slot_at-d.ensures.0 in (omega (arith, lt.0), omega arith, omega arith)

pub overflow_sub-h : goal.overflow_sub-h
overflow_sub-h c = omega (arith, file-paid c.requires.0.at c.requires.0.kind.0 (some c.requires.0))

pub enter-requires : goal.enter-requires
enter-requires c = can-enter c.requires.0.at _ _ _ _ _ (omega arith) (omega (arith, last-small c.requires.0)) (flags-in c.requires.0.at c.requires.0.kind.0 (some c.requires.0)).1 (top_lt c.requires.0) (omega (arith, file-used-lt c.requires.0.at))

pub clear-requires : goal.clear-requires
clear-requires c =
    let lt = back-lt c.requires.0 _ _ c.index_of-i.ensures c.slot_at-d.ensures.0 in
    omega (arith, lt.1)

pub returns : goal.returns
returns c = back_is c.requires.0 _ _ _ _ _ c.index_of-i.ensures c.slot_at-d.ensures.0 c.set_slot.ensures c.enter.ensures c.clear.ensures
