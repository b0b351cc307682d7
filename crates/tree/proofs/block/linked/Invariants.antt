use Prim.Native.Nat.{◌+◌, ◌*◌, ◌≤◌}
use mathlib.Core.Path.{◌≡◌}
use Rattle.tree.specs.Blocks.{Linked}
use Rattle.tree.proofs.block.linked.Given as goal

abbrev pub invariant-loop-i : goal.invariant-loop-i
invariant-loop-i l = (l.bad ≤ l.i) × (l.bad ≡ 0 → Linked l.least (l.top * 65536 + l.rest) l.block l.i) × (Linked l.least (l.top * 65536 + l.rest) l.block l.i → l.bad ≡ 0)
