-- `growth::shrink::empty` meets its contract. Assumes nothing.
use native.Mathlib.Omega.{arith}
use Rattle.growth.proofs.Files.{file-used-lt, can-enter, file-paid}
use Rattle.growth.proofs.Shrinks.{some, empty-lt, top_lt, empty-is}
use Rattle.growth.proofs.shrink.empty.Goals as goal

pub slot_at-d-requires : goal.slot_at-d-requires
slot_at-d-requires c = (omega (arith, top_lt c.requires.0), omega arith)

pub overflow_sub-h : goal.overflow_sub-h
overflow_sub-h c = omega (arith, file-paid c.requires.0.at c.requires.0.kind.0 (some c.requires.0))

pub enter-requires : goal.enter-requires
enter-requires c = can-enter c.requires.0.at _ _ _ _ _ (omega arith) (omega arith) (omega arith) (omega arith) (omega (arith, file-used-lt c.requires.0.at))

pub clear-requires : goal.clear-requires
clear-requires c = omega (arith, empty-lt c.requires.0 c.requires.1 _ c.slot_at-d.ensures.0)

pub clear-requires-2 : goal.clear-requires-2
clear-requires-2 c = omega (arith, top_lt c.requires.0)

pub returns : goal.returns
returns c = empty-is c.requires.0 c.requires.1 _ _ _ _ c.slot_at-d.ensures.0 c.enter.ensures c.clear.ensures c.clear-2.ensures
