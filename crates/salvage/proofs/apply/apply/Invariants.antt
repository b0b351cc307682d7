use Rattle.std.proofs.Common.{◌≡◌}
use Rattle.salvage.specs.Applied.{applied}
use Rattle.salvage.proofs.apply.apply.Given as goal

abbrev pub invariant-loop-x : goal.invariant-loop-x
invariant-loop-x l = l.img ≡ applied l.initial.img l.row l.x-index
