-- `seek::find::find_user` meets its contract. Assumes nothing.
use mathlib.Core.Path.{refl}
use Rattle.book.specs.Words.{vol}
use Rattle.book.specs.Entries.{user_file}
use Rattle.book.specs.Pointers.{user_pointer}
use Rattle.tree.proofs.Reach.{reach-same, root-read}
use Rattle.seek.proofs.Search.{users-found}
use Rattle.tree.proofs.Ready.{ready-users}
use native.Mathlib.Omega.{arith}
use Rattle.seek.proofs.find.find_user.Goals as goal

pub find_in-requires : goal.find_in-requires
unfolding user_file
find_in-requires c = let v = vol c.args.img.now in
    (reach-same _ _ _ (root-read (v 0) user_pointer 0 c.pointer_at-pointer.result.flags c.pointer_at-pointer.result.page 0 c.pointer_at-pointer.ensures.flags.0 c.pointer_at-pointer.ensures.page.0 refl) (ready-users _ c.requires), omega arith)

pub returns : goal.returns
unfolding user_file
returns c =
    let v = vol c.args.img.now in
    users-found v _ c.args.name.now c.find_in.result (root-read (v 0) user_pointer 0 c.pointer_at-pointer.result.flags c.pointer_at-pointer.result.page 0 c.pointer_at-pointer.ensures.flags.0 c.pointer_at-pointer.ensures.page.0 refl) c.find_in.ensures
