use native.Mathlib.Omega.{arith}
use Rattle.laws.specs.Place.Lowest.{above2, above3, above5, above6, above7, above8, most}
use mathlib.Core.List.{[]}
use Rattle.walk.proofs.Judged.{held_on, held-met, met-rule8}
use Rattle.places.proofs.Telling.{breaks-volume, bits_of, told9, told10}
use Rattle.bits.proofs.Marked.{unmarked-for}
use Rattle.places.proofs.tell.tell_counts.Goals as goal

pub mark_all-requires : goal.mark_all-requires
mark_all-requires c = (unmarked-for _ 140733 c.requires.0.whole.most _ c.most_marks-marks.ensures, breaks-volume _ _ _ c.requires.0 (omega arith), c.requires.2, c.requires.3)

pub tell_held-requires : goal.tell_held-requires
tell_held-requires c = absurd (met-rule8 _ _ [] (held-met _ _ _ c.mark_all.result c.mark_all.ensures c.in_default.is) (above8 _ _ _ _ c.requires.0.lowest c.requires.1).0)

pub first9-requires : goal.first9-requires
first9-requires c = let k = held_on _ _ _ c.mark_all.result c.mark_all.ensures _ c.in-Some.is in let b = bits_of _ _ _ c.requires.0 (omega arith) _ c.page_at-b.ensures.0 in record { count = c.requires.2; bits = b; most = c.requires.0.whole.most; held = k.held; room = k.room }

pub returns-then-rule-eq9 : goal.returns-then-rule-eq9
returns-then-rule-eq9 c = told9 _ _ _ c.requires.0 c.first9.result _ c.if-rule-eq9.true c.first9.ensures c.plain.ensures

pub first10-requires : goal.first10-requires
first10-requires c = let k = held_on _ _ _ c.mark_all.result c.mark_all.ensures _ c.in-Some.is in (c.requires.0.whole, c.requires.2, (above2 _ _ _ _ c.requires.0.lowest (omega arith)).0, (above3 _ _ _ _ c.requires.0.lowest (omega arith)).0, (above5 _ _ _ _ c.requires.0.lowest (omega arith)).0, (above6 _ _ _ _ c.requires.0.lowest (omega arith)).0, (above7 _ _ _ _ c.requires.0.lowest (omega arith)).0, k.count, c.requires.3)

pub returns : goal.returns
returns c = told10 _ _ _ c.requires.0 c.first10.result _ (most _ _ _ _ c.requires.0.lowest (omega arith)) c.first10.ensures c.plain-2.ensures
