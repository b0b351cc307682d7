-- `growth::free::free_root` meets its contract. Assumes nothing.
use Rattle.book.specs.Words.{vol}
use Rattle.growth.proofs.Walks.{run-below, run_is, tree_apart, tree_is}
use Rattle.growth.proofs.free.free_root.Goals as goal

pub free_run-requires : goal.free_run-requires
free_run-requires c = (c.requires.0, run-below _ (vol c.args.img.now) c.args.b c.args.pointer.flags c.args.pointer.page c.args.n c.requires.1 c.if-pointer-eq0.true, c.requires.1.start c.if-pointer-eq0.true)

pub returns-then-pointer-eq0 : goal.returns-then-pointer-eq0
returns-then-pointer-eq0 c = run_is _ (vol c.args.img.now) c.args.b c.args.pointer.flags c.args.pointer.page c.args.n c.requires.1 c.if-pointer-eq0.true _ c.free_run.ensures

pub free_pointer-requires : goal.free_pointer-requires
free_pointer-requires c = (c.requires.0, tree_apart _ (vol c.args.img.now) c.args.b c.args.pointer.flags c.args.pointer.page c.args.n c.requires.1 _ c.from.ensures c.if-pointer-eq0.false)

pub returns : goal.returns
returns c = tree_is _ (vol c.args.img.now) c.args.b c.args.pointer.flags c.args.pointer.page c.args.n c.requires.1 _ c.from.ensures c.if-pointer-eq0.false _ c.free_pointer.ensures
