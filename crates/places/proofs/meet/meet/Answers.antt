use Rattle.places.proofs.Steps.{page-none, page-past, page-old, page-new}
use native.Mathlib.Omega.{arith}
use Rattle.places.proofs.meet.meet.Goals as goal

pub returns-then-q-eq0 : goal.returns-then-q-eq0
returns-then-q-eq0 c = page-none _ _ c.requires _ c.if-q-eq0.true

pub returns-then-lowest-q : goal.returns-then-lowest-q
returns-then-lowest-q c = page-past _ _ c.requires _ (omega arith)

pub returns-then-not-mark : goal.returns-then-not-mark
returns-then-not-mark c = page-old _ _ c.requires _ c.if-q-eq0.false (omega arith) _ c.mark.result c.mark.ensures c.if-not-mark.true-raw

pub returns : goal.returns
returns c = page-new _ _ c.requires _ c.if-q-eq0.false _ c.mark.result c.mark.ensures c.if-not-mark.false-raw
