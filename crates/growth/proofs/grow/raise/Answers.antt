-- `growth::grow::raise` meets its contract. Assumes nothing.
use native.Mathlib.Omega.{arith}
use Prim.Native.Nat.{◌<◌}
use Rattle.growth.proofs.Files.{file-used-lt, can-enter, file-top}
use Rattle.growth.proofs.Phases.{can-take₁, can-take₂, can-take₃, need-top, raise-is}
use Rattle.growth.proofs.grow.raise.Goals as goal

pub take-d-requires : goal.take-d-requires
take-d-requires c = can-take₁ c.requires.0

pub take-b-requires : goal.take-b-requires
take-b-requires c = can-take₂ c.requires.0 (omega (arith, need-top c.requires.0 c.requires.1)) _ _ _ c.take-d.ensures (omega arith)

pub take-s-requires : goal.take-s-requires
take-s-requires c = can-take₃ c.requires.0 (need-top c.requires.0 c.requires.1) _ _ _ _ _ _ c.take-d.ensures (omega arith) c.take-b.ensures (omega arith)

pub set_slot-requires : goal.set_slot-requires
set_slot-requires c =
    let some : 0 < c.args.h.count = omega arith in
    (omega arith, omega arith, omega (arith, (file-top c.requires.0.at c.requires.0.kind some).1))

pub overflow_add-h : goal.overflow_add-h
overflow_add-h c = record { fits = omega (arith, file-used-lt c.requires.0.at) }

pub enter-requires : goal.enter-requires
enter-requires c = can-enter c.requires.0.at _ _ _ _ _ (omega arith) (omega arith) (omega arith) (omega arith) (omega (arith, file-used-lt c.requires.0.at))

pub returns : goal.returns
returns c = raise-is c.requires.0 _ _ c.take-d.ensures _ _ _ (omega arith) c.take-b.ensures _ _ _ (omega arith) c.take-s.ensures c.requires.1 _ _ _ _ c.set_slot.ensures c.set_slot-2.ensures c.set_slot-3.ensures c.enter.ensures
