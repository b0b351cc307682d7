-- the records passed are those that the first numbers tell of, and the others are as they were
use Rattle.std.proofs.Common.{◌≡◌}
use Rattle.salvage.specs.Row.{unpacked}
use Rattle.salvage.specs.Filled.{filled}
use Rattle.salvage.proofs.list.fill.Given as goal

abbrev pub invariant-loop-k : goal.invariant-loop-k
invariant-loop-k l = l.told ≡ filled unpacked l.initial.told l.row l.k
