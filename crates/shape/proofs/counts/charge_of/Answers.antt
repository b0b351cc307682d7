use mathlib.Core.Path.{◌∙◌}
use Rattle.shape.proofs.Sums.{charge-run, charge-tree}
use native.Mathlib.Omega.{arith}
use Rattle.shape.proofs.counts.charge_of.Goals as goal

pub returns-then-flags-eq0 : goal.returns-then-flags-eq0
returns-then-flags-eq0 c = (charge-run c.args.flags c.args.n c.if-flags-eq0.true, omega arith)

pub returns : goal.returns
returns c = (c.cost_of.ensures.0 ∙ charge-tree c.args.flags c.args.n c.if-flags-eq0.false, c.cost_of.ensures.1)
