use Rattle.edge.proofs.Mending.{mended-as}
use Rattle.edge.proofs.mend.mended.Goals as goal

pub returns : goal.returns
returns c = mended-as _ _ _ _ _ _ c.mend.ensures c.from.ensures
