-- `walk::run::mark_page` meets its contract. Assumes nothing.
use Rattle.std.proofs.Common.{refl, arith}
use Rattle.bits.proofs.Marked.{new-other}
use Rattle.walk.proofs.Pointers.{below_top, pointer_none, pointer-met, pointer-page, mark-fits}
use Rattle.walk.proofs.run.mark_page.Goals as goal

pub mark-requires : goal.mark-requires
mark-requires c = omega (arith, below_top _ _ _ _ c.requires.1, c.requires.0.room)

pub overflow_add-result : goal.overflow_add-result
overflow_add-result c = omega (arith, mark-fits c.args.img.now _ _ _ _ c.if-mark.ensures (below_top _ _ _ _ c.requires.1) c.requires.0)

pub returns-then-mark : goal.returns-then-mark
returns-then-mark c = pointer-page c.args.img.now _ _ _ 0 _ (new-other _ _ _ c.if-mark.ensures c.requires.0.master) _ c.if-mark.ensures refl

pub returns-then-page-eq0 : goal.returns-then-page-eq0
returns-then-page-eq0 c = rw c.if-mark.ensures.1 (pointer_none c.args.img.now _ _ _ 0 _ c.if-page-eq0.true)

pub returns-else-page-eq0 : goal.returns-else-page-eq0
returns-else-page-eq0 c = pointer-met c.args.img.now _ _ c.args.visited 0 _ (omega arith) (below_top _ _ _ _ c.requires.1) c.if-mark.ensures.0 c.args.marks.now
