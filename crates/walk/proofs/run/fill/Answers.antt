-- `walk::run::fill` meets its contract. Assumes nothing.
use Rattle.walk.proofs.Runs.{fill-new}
use Rattle.walk.proofs.run.fill.Goals as goal

pub returns : goal.returns
returns c = fill-new c.args.marks.now c.args.w c.requires c.if-marks-w-ne0.false
