use Rattle.book.specs.Decides.{holds}
use Rattle.places.proofs.Owned.{objects-right}
use Rattle.places.proofs.objects.user_objects.Goals as goal

pub returns : goal.returns
returns c = objects-right c.args.img.now c.args.pointer.flags c.args.pointer.page c.requires.0 c.args.u c.requires.1 (holds c.all_right.result _ c.all_right.ensures c.if-not-all_right.false-raw)
