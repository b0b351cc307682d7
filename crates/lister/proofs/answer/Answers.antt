-- The text is the one of the image of the bytes read, and whole. Assumes nothing.
use Rattle.lister.proofs.Whole.{answered}
use Rattle.lister.proofs.answer.Goals as goal

pub returns : goal.returns
returns c = answered _ _ _ _ _ c.requires.1 c.requires.2 c.words.ensures c.list.ensures
