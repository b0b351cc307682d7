-- `seek::files::object_used` meets its contract. Assumes nothing.
use mathlib.Core.Path.{subst}
use Prim.Native.Nat.{◌<◌}
use Rattle.book.specs.Words.{Words, vol}
use Rattle.book.specs.Entries.{used}
use Rattle.book.specs.Decides.{Decides}
use Rattle.tree.proofs.Entries.{object-in}
use Rattle.tree.proofs.Ready.{ready-objects}
use Rattle.seek.proofs.files.object_used.Goals as goal

pub object_page-q-requires : goal.object_page-q-requires
object_page-q-requires c = ready-objects _ c.requires

pub returns : goal.returns
returns c = subst (λ (w : Words). Decides c.entry_used.result (0 < used w)) (object-in (vol c.args.img.now) c.args.e c.object_page-q.result c.object_page-q.ensures.0) c.entry_used.ensures
