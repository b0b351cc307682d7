-- `growth::grow::first` meets its contract. Assumes nothing.
use native.Mathlib.Omega.{arith}
use Rattle.growth.proofs.Files.{file-used-lt, can-enter}
use Rattle.growth.proofs.Phases.{can-take₁, can-take₂, need-first, first-is}
use Rattle.growth.proofs.grow.first.Goals as goal

pub take-d-requires : goal.take-d-requires
take-d-requires c = can-take₁ c.requires.0

pub take-b-requires : goal.take-b-requires
take-b-requires c = can-take₂ c.requires.0 (need-first c.requires.0 c.requires.1) _ _ _ c.take-d.ensures (omega arith)

pub overflow_add-h : goal.overflow_add-h
overflow_add-h c = record { fits = omega (arith, file-used-lt c.requires.0.at) }

pub enter-requires : goal.enter-requires
enter-requires c = can-enter c.requires.0.at _ _ _ _ _ (omega arith) (omega arith) (omega arith) (omega arith) (omega (arith, file-used-lt c.requires.0.at))

pub returns : goal.returns
returns c = first-is c.requires.0 _ _ c.take-d.ensures _ _ _ (omega arith) c.take-b.ensures c.requires.1 _ _ c.set_slot.ensures c.enter.ensures
