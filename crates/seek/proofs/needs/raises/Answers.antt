-- `seek::needs::raises` meets its contract. Assumes nothing.
use Rattle.std.proofs.Common.{arith}
use Rattle.sums.specs.Sum.{is}
use Rattle.book.specs.Create.{raises}
use Rattle.seek.proofs.needs.raises.Goals as goal
use Rattle.seek.proofs.needs.raises.Goals.{then-flags_at-eq1, else-flags_at-eq1}

pub returns : goal.returns
unfolding raises is
returns c = elim c.if-flags_at-eq1.branch [ then-flags_at-eq1 w ↦ grind arith | else-flags_at-eq1 w ↦ grind arith ]
