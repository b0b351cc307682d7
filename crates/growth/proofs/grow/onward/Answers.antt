-- `growth::grow::onward` meets its contract. Assumes nothing.
use native.Mathlib.Omega.{arith}
use Prim.Native.Nat.{◌<◌}
use Rattle.growth.proofs.Files.{file-count-lt, file-used-lt, can-enter, flags-in, file-top, file-index-lt}
use Rattle.growth.proofs.Phases.{can-take₁, onward-is}
use Rattle.growth.proofs.grow.onward.Goals as goal

pub index_of-i-requires : goal.index_of-i-requires
index_of-i-requires c = let some : 0 < c.args.h.count = omega arith in
    ((flags-in c.requires.0.at c.requires.0.kind some).0, (file-top c.requires.0.at c.requires.0.kind some).1, omega (arith, file-count-lt c.requires.0.at))

pub take-d-requires : goal.take-d-requires
take-d-requires c = can-take₁ c.requires.0

pub set_slot-requires : goal.set_slot-requires
set_slot-requires c =
    let some : 0 < c.args.h.count = omega arith in let lt = file-index-lt c.requires.0.at c.requires.0.kind some c.args.h.count (omega (arith, file-count-lt c.requires.0.at)) in
    (omega (arith, lt), omega arith, omega arith)

pub overflow_add-n : goal.overflow_add-n
overflow_add-n c = record { fits = omega (arith, file-count-lt c.requires.0.at) }

pub overflow_add-h : goal.overflow_add-h
overflow_add-h c = record { fits = omega (arith, file-used-lt c.requires.0.at) }

pub enter-requires : goal.enter-requires
enter-requires c =
    let some : 0 < c.args.h.count = omega arith in
    can-enter c.requires.0.at _ _ _ _ _ (omega arith) (omega (arith, file-count-lt c.requires.0.at)) (flags-in c.requires.0.at c.requires.0.kind some).1 (file-top c.requires.0.at c.requires.0.kind some).1 (omega (arith, file-used-lt c.requires.0.at))

pub returns : goal.returns
returns c = onward-is c.requires.0 _ _ c.take-d.ensures _ _ _ c.index_of-i.ensures c.set_slot.ensures c.enter.ensures
