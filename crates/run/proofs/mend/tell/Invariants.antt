use mathlib.Core.Path.{◌≡◌}
use Rattle.run.proofs.Flat.{flat_filled}
use Rattle.run.proofs.mend.tell.Given as goal

abbrev pub invariant-loop-k : goal.invariant-loop-k
invariant-loop-k l = l.list ≡ flat_filled l.initial.list l.row l.k
