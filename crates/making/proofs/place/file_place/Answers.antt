-- `making::place::file_place` meets its contract. Assumes nothing.
use Rattle.book.specs.Image.{pages}
use Rattle.book.specs.Words.{vol}
use Rattle.making.proofs.Between.{file-place-is, with-index, indexed-next}
use Rattle.tree.proofs.Ready.{ready-some}
use native.Mathlib.Omega.{arith}
use Rattle.making.proofs.place.file_place.Goals as goal

pub with_object_page-requires : goal.with_object_page-requires
with_object_page-requires c =
    let N = indexed-next c.args.img.now _ c.args.e c.requires.0 _ c.with_index.ensures (with-index (pages c.args.img.now) (vol c.args.img.now) c.args.e c.requires.0.sound (ready-some _ c.requires.0) c.requires.2 c.requires.3) (omega arith) in
    (N.0, c.requires.1, N.1, N.2, N.3)

pub returns : goal.returns
returns c = file-place-is (pages c.args.img.now) (vol c.args.img.now) c.args.e _ _ c.with_index.ensures _ c.with_object_page.ensures (omega arith)
