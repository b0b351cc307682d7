-- `convert::volume::objects_end` meets its contract. Assumes nothing.
use mathlib.Core.Path.{refl}
use Rattle.tree.proofs.Ready.{ready-objects}
use Rattle.convert.proofs.Passes.{past_end}
use Rattle.convert.proofs.volume.objects_end.Goals as goal

pub object_ends-requires : goal.object_ends-requires
object_ends-requires c = ready-objects _ c.requires

pub returns : goal.returns
returns c = past_end c.args.img.now c.object_ends.result _ c.object_ends.ensures refl
