use Rattle.book.specs.Image.{pages}
use Rattle.book.specs.Words.{vol}
use Rattle.walk.proofs.Entries.{walked-root}
use Rattle.tree.proofs.Reach.{user-root}
use Rattle.walk.proofs.Holding.{below-same}
use Rattle.walk.proofs.Short.{short-same}
use Rattle.walk.proofs.volume.mark_users.Goals as goal

pub mark_tree-requires : goal.mark_tree-requires
mark_tree-requires c = let v = vol c.args.img.now in let P = pages c.args.img.now in
    let e = user-root v c.pointer_at-pointer.result.flags c.pointer_at-pointer.result.page c.pointer_at-pointer.ensures.flags.0 c.pointer_at-pointer.ensures.page.0 in
    (c.requires.0, below-same v P _ _ e c.requires.1.within.users, short-same v _ _ 8 e c.requires.1.short.users)

pub returns : goal.returns
returns c = let v = vol c.args.img.now in let P = pages c.args.img.now in
    walked-root P c.args.marks.now c.args.visited v _ _ (user-root v c.pointer_at-pointer.result.flags c.pointer_at-pointer.result.page c.pointer_at-pointer.ensures.flags.0 c.pointer_at-pointer.ensures.page.0) c.mark_tree.new.marks c.mark_tree.result c.mark_tree.ensures
