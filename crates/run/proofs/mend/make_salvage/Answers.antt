use native.Mathlib.Omega.{arith}
use Rattle.salvage.specs.Mending.{mends-fits}
use Rattle.run.proofs.Flat.{changes-result}
use Rattle.run.proofs.mend.make_salvage.Goals as goal

pub tell-requires : goal.tell-requires
tell-requires c = let w = mends-fits _ _ c.mend-a.result _ _ c.mend-a.ensures in
    (omega (arith, c.told.ensures, w.0), omega (arith, c.told.ensures, w.1), c.mend-a.ensures.size)

pub returns : goal.returns
returns c = changes-result _ _ c.mend-a.result _ _ _ _ c.mend-a.ensures c.told.ensures c.tell.ensures
