use Rattle.laws.specs.Place.Rules.{all2}
use Rattle.places.proofs.Headed.{objects-wrong, users-wrong}
use Rattle.book.specs.Decides.{holds, fails}
use Rattle.places.proofs.master.first2.Goals as goal

pub returns-then-not-objects_ok : goal.returns-then-not-objects_ok
returns-then-not-objects_ok c = objects-wrong _ _ _ c.master_place.ensures (fails c.objects_ok.result _ c.objects_ok.ensures c.if-not-objects_ok.true-raw)

pub returns-then-not-rule2 : goal.returns-then-not-rule2
returns-then-not-rule2 c = users-wrong _ _ _ c.master_place-then-not-rule2.ensures (holds c.objects_ok.result _ c.objects_ok.ensures c.if-not-objects_ok.false-raw) (fails c.rule2.result _ c.rule2.ensures c.if-not-rule2.true-raw)

pub returns : goal.returns
returns c = all2 _ _ (holds c.rule2.result _ c.rule2.ensures c.if-not-rule2.false-raw)
