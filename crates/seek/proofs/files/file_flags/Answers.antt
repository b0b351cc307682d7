-- `seek::files::file_flags` meets its contract. Assumes nothing.
use mathlib.Core.Path.{ap, ◌∙◌}
use Rattle.book.specs.Words.{Words, vol}
use Rattle.book.specs.Pointers.{flags}
use Rattle.tree.proofs.Entries.{object-in}
use Rattle.tree.proofs.Ready.{ready-objects}
use Rattle.seek.proofs.files.file_flags.Goals as goal

pub object_page-q-requires : goal.object_page-q-requires
object_page-q-requires c = ready-objects _ c.requires

pub returns : goal.returns
returns c = (c.entry_flags.ensures.0 ∙ ap (λ (w : Words). flags w 30) (object-in (vol c.args.img.now) c.args.e c.object_page-q.result c.object_page-q.ensures.0), c.entry_flags.ensures.1)
