use native.Mathlib.Omega.{arith}
use Rattle.book.specs.Image.{pages}
use Rattle.book.specs.Words.{vol}
use Rattle.laws.specs.Tree.Positions.{run-below}
use Rattle.walk.proofs.Runs.{walked-run, root-tree}
use Rattle.walk.proofs.Short.{short-same}
use Rattle.walk.proofs.Entries.{walked-root}
use Rattle.walk.proofs.Holding.{below-same}
use Rattle.walk.proofs.roots.mark_root.Goals as goal

pub mark_tree-requires : goal.mark_tree-requires
mark_tree-requires c = let v = vol c.args.img.now in let P = pages c.args.img.now in
    let e = root-tree c.args.pointer.flags c.args.pointer.page c.args.count 0 (omega arith) in
    (c.requires.0, below-same v P _ _ e c.requires.1, short-same v _ _ c.args.count e c.requires.2)

pub returns-then-pointer-ne0 : goal.returns-then-pointer-ne0
returns-then-pointer-ne0 c = let v = vol c.args.img.now in let P = pages c.args.img.now in
    walked-root P c.args.marks.now c.args.visited v _ _ (root-tree c.args.pointer.flags c.args.pointer.page c.args.count 0 (omega arith)) c.mark_tree.new.marks c.mark_tree.result c.mark_tree.ensures

pub mark_each-requires : goal.mark_each-requires
mark_each-requires c = (c.requires.0, run-below (vol c.args.img.now) (pages c.args.img.now) c.args.pointer.flags c.args.pointer.page c.args.count c.requires.1 c.if-pointer-ne0.false)

pub returns-then-count-lt32 : goal.returns-then-count-lt32
returns-then-count-lt32 c = walked-run (vol c.args.img.now) (pages c.args.img.now) c.args.pointer.flags c.args.pointer.page c.args.count c.args.marks.now c.args.visited c.if-pointer-ne0.false c.mark_each.new.marks c.mark_each.result c.mark_each.ensures

pub mark_run-requires : goal.mark_run-requires
mark_run-requires c = (c.requires.0, run-below (vol c.args.img.now) (pages c.args.img.now) c.args.pointer.flags c.args.pointer.page c.args.count c.requires.1 c.if-pointer-ne0.false, omega (arith, c.if-count-lt32.false))

pub returns-else-count-lt32 : goal.returns-else-count-lt32
returns-else-count-lt32 c = walked-run (vol c.args.img.now) (pages c.args.img.now) c.args.pointer.flags c.args.pointer.page c.args.count c.args.marks.now c.args.visited c.if-pointer-ne0.false c.mark_run.new.marks c.mark_run.result c.mark_run.ensures
