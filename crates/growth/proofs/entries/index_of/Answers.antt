-- `growth::entries::index_of` meets its contract. Assumes nothing.
use mathlib.Core.Path.{◌∙◌}
use Rattle.growth.proofs.Heads.{index-one, index-two}
use Rattle.growth.proofs.entries.index_of.Goals as goal

pub returns-then-pointer-eq-INDEXED : goal.returns-then-pointer-eq-INDEXED
returns-then-pointer-eq-INDEXED c = index-one _ _ _ _ c.if-pointer-eq-INDEXED.true

pub returns : goal.returns
returns c = c.slot_at.ensures.0 ∙ index-two _ _ _ _ c.requires.0 c.if-pointer-eq-INDEXED.false
