-- `making::file::create_indexed_step` meets its contract. Assumes nothing.
use Rattle.book.specs.Image.{pages}
use Rattle.book.specs.Words.{vol}
use Rattle.making.proofs.Made.{entry-reached, entry-room, file-ready, create-indexed-is}
use Rattle.tree.proofs.Ready.{ready-objects}
use native.Mathlib.Omega.{arith}
use Rattle.making.proofs.file.create_indexed_step.Goals as goal

pub file_place-requires : goal.file_place-requires
file_place-requires c = (c.requires.0, c.entry_number-e.ensures.1, entry-reached c.requires.0 c.requires.1 c.requires.4 c.requires.2 c.entry_number-e.ensures.0, entry-room c.requires.0 c.requires.1 c.requires.4 c.requires.2 c.entry_number-e.ensures.0 c.requires.5)

pub object_page-q-requires : goal.object_page-q-requires
object_page-q-requires c = ready-objects _ (file-ready c.requires.0 c.requires.1 c.requires.4 c.requires.2 c.entry_number-e.ensures.0 c.requires.5 _ c.file_place.ensures (omega arith))

pub returns : goal.returns
returns c =
    create-indexed-is (pages c.args.img.now) (vol c.args.img.now) c.args.u c.args.f c.entry_number-e.result c.args.name.now c.args.kind.now c.args.created c.requires.3 c.entry_number-e.ensures.0 _ _ c.object_page-q.result
    c.file_place.ensures c.object_page-q.ensures.0 c.object_entry.ensures
