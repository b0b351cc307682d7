use Prim.Native.Nat.{◌-◌, ◌*◌, ◌≤◌, ◌<◌}
use Rattle.salvage.specs.Row.{RowTells}
use Rattle.salvage.proofs.collect.collect.Given as goal

abbrev pub invariant-loop-p : goal.invariant-loop-p
invariant-loop-p l = (0 < l.p) × (l.p ≤ l.total) × RowTells l.img (1024 * l.p) l.row l.n

abbrev pub decreases-loop-p : goal.decreases-loop-p
decreases-loop-p l = l.total - l.p
