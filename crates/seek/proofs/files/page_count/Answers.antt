-- `seek::files::page_count` meets its contract. Assumes nothing.
use mathlib.Core.Path.{ap, ◌∙◌}
use Rattle.book.specs.Words.{Words, vol, two}
use Rattle.tree.proofs.Entries.{object-in}
use Rattle.tree.proofs.Ready.{ready-objects}
use Rattle.seek.proofs.files.page_count.Goals as goal

pub object_page-q-requires : goal.object_page-q-requires
object_page-q-requires c = ready-objects _ c.requires

pub returns : goal.returns
returns c = (c.entry_two.ensures.0 ∙ ap (λ (w : Words). two w 26) (object-in (vol c.args.img.now) c.args.e c.object_page-q.result c.object_page-q.ensures.0), c.entry_two.ensures.1)
