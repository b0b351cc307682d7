-- `convert::volume::convert_step` meets its contract. Assumes nothing.
use native.Mathlib.Omega.{arith}
use Rattle.convert.proofs.Passes.{name-ready, users-ready, all-converted}
use Rattle.convert.proofs.volume.convert_step.Goals as goal

pub refill_all-requires : goal.refill_all-requires
refill_all-requires c = (name-ready c.args.mark c.requires.1 c.args.img.now c.requires.0 _ c.refill_at.auto.img c.refill_at.ensures, omega arith, c.requires.1)

pub objects_end-end-requires : goal.objects_end-end-requires
objects_end-end-requires c = users-ready c.args.mark c.requires.1 c.args.img.now c.requires.0 _ c.refill_at.auto.img c.refill_at.ensures _ c.refill_all.auto.img c.refill_all.ensures

pub refill_all-requires-2 : goal.refill_all-requires-2
refill_all-requires-2 c = (users-ready c.args.mark c.requires.1 c.args.img.now c.requires.0 _ c.refill_at.auto.img c.refill_at.ensures _ c.refill_all.auto.img c.refill_all.ensures, c.objects_end-end.ensures.most, c.requires.1)

pub returns : goal.returns
returns c = all-converted c.args.mark c.requires.1 c.args.img.now c.requires.0 _ c.refill_at.auto.img c.refill_at.ensures _ c.refill_all.auto.img c.refill_all.ensures c.objects_end-end.result c.objects_end-end.ensures _ c.refill_all-2.ensures
