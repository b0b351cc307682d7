use mathlib.Core.Path.{sym, ◌∙◌}
use native.Mathlib.Omega.{arith}
use Rattle.sums.specs.Search.{pick_yes, pick_no}
use Rattle.heads.proofs.stamps.last_mixed.Goals as goal

pub returns-then-x-eq0 : goal.returns-then-x-eq0
returns-then-x-eq0 c = (sym (pick_no c.args.x _ _ c.if-x-eq0.true), c.requires)

pub returns : goal.returns
returns c = (c.mixed.ensures.0 ∙ sym (pick_yes c.args.x _ _ (omega arith)), c.mixed.ensures.1)
