-- `change::change_of` meets its contract. Assumes nothing.
use mathlib.Core.Path.{refl}
use Rattle.salvage.specs.Row.{unpacked}
use Rattle.salvage.proofs.list.change_of.Goals as goal

-- src/lib.rt:32:1
pub returns : goal.returns
unfolding unpacked
returns c = refl
