use Rattle.laws.specs.Place.Rules.{all1}
use Rattle.places.proofs.Headed.{volume-wrong, bits-wrong}
use Rattle.book.specs.Decides.{holds, fails}
use Rattle.places.proofs.master.first1.Goals as goal

pub returns-then-not-legal_at : goal.returns-then-not-legal_at
returns-then-not-legal_at c = volume-wrong _ _ _ c.master_place.ensures (fails c.legal_at.result _ c.legal_at.ensures c.if-not-legal_at.true-raw)

pub returns-then-not-rule1 : goal.returns-then-not-rule1
returns-then-not-rule1 c = bits-wrong _ _ _ c.master_place-then-not-rule1.ensures (holds c.legal_at.result _ c.legal_at.ensures c.if-not-legal_at.false-raw) (fails c.rule1.result _ c.rule1.ensures c.if-not-rule1.true-raw)

pub returns : goal.returns
returns c = all1 _ _ (holds c.rule1.result _ c.rule1.ensures c.if-not-rule1.false-raw)
