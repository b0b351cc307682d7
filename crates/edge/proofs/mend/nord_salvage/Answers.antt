-- `edge::mend::nord_salvage` meets its contract: what `mended` says of the row and what `fill` makes of it are what the call promises.
use Rattle.edge.specs.Salvages.{mended-salvages}
use Rattle.edge.proofs.mend.nord_salvage.Goals as goal

pub returns : goal.returns
returns c =
    mended-salvages c.args.img.now c.args.list.now c.mended-r.result c.mended-r.new.img c.mended-r.new.row c.fill.new.list c.mended-r.ensures
    (rw c.told.ensures at c.fill.ensures)
