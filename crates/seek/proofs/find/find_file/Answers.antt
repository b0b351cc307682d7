-- `seek::find::find_file` meets its contract. Assumes nothing.
use mathlib.Core.Path.{refl}
use Rattle.book.specs.Words.{vol}
use Rattle.book.specs.Entries.{object_file}
use Rattle.book.specs.Pointers.{object_pointer}
use Rattle.tree.proofs.Reach.{reach-same, root-read}
use Rattle.seek.proofs.Search.{files-found}
use Rattle.tree.proofs.Ready.{ready-objects}
use native.Mathlib.Omega.{arith}
use Rattle.seek.proofs.find.find_file.Goals as goal

pub find_in-requires : goal.find_in-requires
unfolding object_file
find_in-requires c = let v = vol c.args.img.now in
    (reach-same _ _ _ (root-read (v 0) object_pointer 0 c.pointer_at-pointer.result.flags c.pointer_at-pointer.result.page 0 c.pointer_at-pointer.ensures.flags.0 c.pointer_at-pointer.ensures.page.0 refl) (ready-objects _ c.requires.0), omega arith)

pub returns : goal.returns
unfolding object_file
returns c =
    let v = vol c.args.img.now in
    files-found v _ c.args.user c.args.name.now c.args.kind.now c.find_in.result (root-read (v 0) object_pointer 0 c.pointer_at-pointer.result.flags c.pointer_at-pointer.result.page 0 c.pointer_at-pointer.ensures.flags.0 c.pointer_at-pointer.ensures.page.0 refl) c.find_in.ensures
