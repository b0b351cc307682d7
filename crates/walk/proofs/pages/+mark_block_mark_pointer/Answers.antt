use mathlib.Core.Path.{refl}
use native.Mathlib.Omega.{arith}
use borrow.Author.Rules.{rules}
use Rattle.book.specs.Image.{pages}
use Rattle.std.specs.Prelude.{Some, None}
use Rattle.tree.proofs.Blocks.{pointer_read}
use Rattle.walk.proofs.Walks.{row-start, row_on, row-met, row-end}
use Rattle.walk.proofs.Pointers.{below_top, slots_of, slot-below, slot-short, slot-weigh, block-walking, block-below, block-short, block-all, row-level, pointer_none, pointer-met, pointer-block, mark-fits, mark-walking}
use Rattle.walk.proofs.pages.+mark_block_mark_pointer.Goals as goal

pub mark_block-returns-then-level-eq0 : goal.mark_block-returns-then-level-eq0
mark_block-returns-then-level-eq0 t c =
    block-all c.args.img.now c.args.block.now c.args.level c.args.count c.requires.2 c.pointers-n.result c.pointers-n.ensures.0 c.pointers-n.ensures.1 (pages c.args.img.now) c.args.marks.now c.args.visited c.mark_pages.new.marks c.mark_pages.result
    (row-level c.args.img.now c.args.block.now c.args.level c.if-level-eq0.true c.pointers-n.result (pages c.args.img.now) c.args.marks.now c.args.visited c.mark_pages.new.marks c.mark_pages.result c.mark_pages.ensures)

pub mark_block-loop-i-init : goal.mark_block-loop-i-init
mark_block-loop-i-init t c =
    row-start _ _ _ _

pub mark_block-mark_pointer-requires : goal.mark_block-mark_pointer-requires
mark_block-mark_pointer-requires t c =
    let e = pointer_read c.args.block.now c.loop-i.i _ c.dword-p.ensures.0 in (
      omega (arith, c.decreases),
      (
        block-walking c.args.img.now c.args.block.now _ c.requires.1 c.loop-i.i (omega arith) _ _ _ _ c.requires.0 c.loop-i.invariant,
        slot-below c.args.img.now c.args.block.now _ c.requires.1 c.loop-i.i (omega arith) _ e,
        slot-short c.args.img.now c.args.block.now _ c.args.count c.requires.2 c.loop-i.i (omega arith) _ _ e c.under.ensures,
        omega arith,
        omega arith,
      ),
    )

pub mark_block-returns-in_err-v : goal.mark_block-returns-in_err-v
mark_block-returns-in_err-v t c =
    rw c.from_residual.ensures (
    block-all c.args.img.now c.args.block.now c.args.level c.args.count c.requires.2 c.pointers-n.result c.pointers-n.ensures.0 c.pointers-n.ensures.1 (pages c.args.img.now) c.args.marks.now c.args.visited c.mark_pointer.new.marks None
    (row-met _ _ _ (slots_of c.args.img.now c.args.level c.args.block.now) c.loop-i.i _ _ c.loop-i.invariant _ (slot-weigh c.args.img.now c.args.block.now _ c.requires.1 c.loop-i.i _ (pointer_read c.args.block.now c.loop-i.i _ c.dword-p.ensures.0)) c.mark_pointer.new.marks
    c.in_err-v.ensures c.pointers-n.result (omega arith) c.mark_pointer.new.marks)
    )

pub mark_block-loop-i-preserved : goal.mark_block-loop-i-preserved
mark_block-loop-i-preserved t c =
    row_on _ _ _ (slots_of c.args.img.now c.args.level c.args.block.now) c.loop-i.i _ _ c.loop-i.invariant _ (slot-weigh c.args.img.now c.args.block.now _ c.requires.1 c.loop-i.i _ (pointer_read c.args.block.now c.loop-i.i _ c.dword-p.ensures.0)) _ _ c.in_ok-v.ensures

pub mark_block-returns : goal.mark_block-returns
mark_block-returns t c =
    block-all c.args.img.now c.args.block.now c.args.level c.args.count c.requires.2 c.pointers-n.result c.pointers-n.ensures.0 c.pointers-n.ensures.1 (pages c.args.img.now) c.args.marks.now c.args.visited _ (Some c.loop-i.v)
    (row-end _ _ _ (slots_of c.args.img.now c.args.level c.args.block.now) c.loop-i.i _ _ _ (omega arith) c.loop-i.invariant)

pub mark_pointer-returns-then-page-eq0 : goal.mark_pointer-returns-then-page-eq0
mark_pointer-returns-then-page-eq0 t c =
    pointer_none c.args.img.now _ _ _ _ _ c.if-page-eq0.true

pub mark_pointer-returns-else-mark : goal.mark_pointer-returns-else-mark
mark_pointer-returns-else-mark t c =
    pointer-met c.args.img.now _ _ c.args.visited _ _ (omega arith) (below_top _ _ _ _ c.requires.1) c.if-mark.ensures.0 c.args.marks.now

pub mark_pointer-overflow_add-visited : goal.mark_pointer-overflow_add-visited
mark_pointer-overflow_add-visited t c =
    omega (arith, mark-fits c.args.img.now _ _ _ _ c.if-mark.ensures (below_top _ _ _ _ c.requires.1) c.requires.0)

pub mark_pointer-mark_block-requires : goal.mark_pointer-mark_block-requires
mark_pointer-mark_block-requires t c =
    let i = below_top _ _ _ _ c.requires.1 in (
      omega (arith, c.decreases, c.requires.3),
      (
        mark-walking c.args.img.now _ _ _ _ c.if-mark.ensures i c.requires.0,
        block-below c.args.img.now c.args.page _ refl (omega arith) c.args.level c.requires.3 (search rules) c.requires.1,
        block-short c.args.img.now c.args.page _ refl (omega arith) c.args.level c.args.count c.requires.3 c.requires.2,
        omega arith,
      ),
    )

pub mark_pointer-returns-then-mark : goal.mark_pointer-returns-then-mark
mark_pointer-returns-then-mark t c =
    pointer-block c.args.img.now (pages c.args.img.now) c.args.marks.now c.args.visited _ _ (omega arith) _ c.if-mark.ensures c.requires.3 _ refl c.mark_block.new.marks c.mark_block.result c.mark_block.ensures
