-- `walk::pages::follows` meets its contract. Assumes nothing.
use Rattle.std.proofs.Common.{◌≡◌, ◌≤◌}
use Rattle.walk.specs.Short.{Follows}
use Rattle.walk.proofs.pages.follows.Given as goal

abbrev pub invariant-loop-i : goal.invariant-loop-i
invariant-loop-i l = (l.bad ≤ l.i) × (l.bad ≡ 0 → Follows l.block l.i l.start)
