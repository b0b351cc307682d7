use Rattle.book.specs.Image.{pages}
use Rattle.book.specs.Words.{vol}
use Rattle.tree.proofs.Reach.{object-root}
use Rattle.walk.proofs.Entries.{walked-root}
use Rattle.walk.proofs.Short.{objects-short}
use Rattle.walk.proofs.Holding.{below-same}
use Rattle.walk.proofs.volume.mark_objects.Goals as goal

pub mark_tree-requires : goal.mark_tree-requires
mark_tree-requires c = let v = vol c.args.img.now in let P = pages c.args.img.now in
    let e = object-root v c.pointer_at-pointer.result.flags c.pointer_at-pointer.result.page c.pointer_at-pointer.ensures.flags.0 c.pointer_at-pointer.ensures.page.0 in (
      c.requires.0,
      below-same v P _ _ e c.requires.1.within.objs,
      objects-short c.args.img.now _ _ c.args.ends e c.requires.2 c.requires.1.short.objects c.object_positions.result c.object_positions.ensures.0 c.object_positions.ensures.1,
    )

pub returns : goal.returns
returns c = let v = vol c.args.img.now in let P = pages c.args.img.now in
    walked-root P c.args.marks.now c.args.visited v _ _ (object-root v c.pointer_at-pointer.result.flags c.pointer_at-pointer.result.page c.pointer_at-pointer.ensures.flags.0 c.pointer_at-pointer.ensures.page.0) c.mark_tree.new.marks c.mark_tree.result c.mark_tree.ensures
