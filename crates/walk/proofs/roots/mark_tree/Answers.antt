use native.Mathlib.Omega.{arith}
use Rattle.book.specs.Image.{pages}
use Rattle.book.specs.Words.{vol}
use Rattle.laws.specs.Tree.Positions.{root_below}
use Rattle.walk.proofs.Short.{root-short}
use Rattle.walk.proofs.Runs.{walked-tree, walked-bare}
use Rattle.walk.proofs.roots.mark_tree.Goals as goal

pub mark_pointer-requires : goal.mark_pointer-requires
mark_pointer-requires c = let v = vol c.args.img.now in let P = pages c.args.img.now in (
  c.requires.0,
  root_below v P c.args.pointer.flags c.args.pointer.page 0 c.requires.1 0 c.in-1.is (omega arith),
  root-short v c.args.pointer.flags c.args.pointer.page 0 c.args.count c.requires.2 0 c.in-1.is (omega arith),
  omega arith,
  omega arith,
)

pub returns-in-1 : goal.returns-in-1
returns-in-1 c = let v = vol c.args.img.now in let P = pages c.args.img.now in
    walked-tree v P c.args.pointer.flags c.args.pointer.page 0 c.args.marks.now c.args.visited 0 c.in-1.is (omega arith) c.mark_pointer.new.marks c.mark_pointer.result c.mark_pointer.ensures

pub mark_pointer-requires-in-2 : goal.mark_pointer-requires-in-2
mark_pointer-requires-in-2 c = let v = vol c.args.img.now in let P = pages c.args.img.now in (
  c.requires.0,
  root_below v P c.args.pointer.flags c.args.pointer.page 0 c.requires.1 1 c.in-2.is (omega arith),
  root-short v c.args.pointer.flags c.args.pointer.page 0 c.args.count c.requires.2 1 c.in-2.is (omega arith),
  omega arith,
  omega arith,
)

pub returns-in-2 : goal.returns-in-2
returns-in-2 c = let v = vol c.args.img.now in let P = pages c.args.img.now in
    walked-tree v P c.args.pointer.flags c.args.pointer.page 0 c.args.marks.now c.args.visited 1 c.in-2.is (omega arith) c.mark_pointer-in-2.new.marks c.mark_pointer-in-2.result c.mark_pointer-in-2.ensures

pub returns-in_default : goal.returns-in_default
returns-in_default c = let v = vol c.args.img.now in let P = pages c.args.img.now in
    walked-bare v P c.args.pointer.flags c.args.pointer.page c.args.marks.now c.args.visited (λ e. omega (arith, e)) (λ e. omega (arith, e))
