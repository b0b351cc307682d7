-- `walk::pages::mark_slots` meets its contract. Assumes nothing.
use Rattle.std.proofs.Common.{◌<◌, arith}
use Rattle.page.proofs.Deciding.{untold}
use Rattle.walk.proofs.Walks.{row-start, row_on, row-met, row-end}
use Rattle.walk.proofs.Pointers.{below_top, slots_of, slot-below, slot-weigh, block-walking}
use Rattle.walk.proofs.pages.mark_slots.Goals as goal

pub loop-i-init : goal.loop-i-init
loop-i-init c = row-start _ _ _ _

pub page_of-p-requires : goal.page_of-p-requires
page_of-p-requires c = let i : c.loop-i.i < 512 = omega arith in
    (c.requires.1.size, i, λ e. omega (arith, below_top _ _ 0 _ (c.requires.1.below c.loop-i.i i), untold c.is_far-far.result _ c.is_far-far.ensures e))

pub mark_page-requires : goal.mark_page-requires
mark_page-requires c = (
  block-walking c.args.img.now c.args.block.now 0 c.requires.1 c.loop-i.i (omega arith) _ _ _ _ c.requires.0 c.loop-i.invariant,
  slot-below c.args.img.now c.args.block.now 0 c.requires.1 c.loop-i.i (omega arith) _ c.page_of-p.ensures,
)

pub returns-in_err-v : goal.returns-in_err-v
returns-in_err-v c =
    rw c.from_residual.ensures (
    row-met _ _ _ (slots_of c.args.img.now 0 c.args.block.now) c.loop-i.i _ _ c.loop-i.invariant _ (slot-weigh c.args.img.now c.args.block.now 0 c.requires.1 c.loop-i.i _ c.page_of-p.ensures) c.mark_page.new.marks c.in_err-v.ensures
    c.args.n (omega arith) c.mark_page.new.marks
    )

pub loop-i-preserved : goal.loop-i-preserved
loop-i-preserved c =
    row_on _ _ _ (slots_of c.args.img.now 0 c.args.block.now) c.loop-i.i _ _ c.loop-i.invariant _ (slot-weigh c.args.img.now c.args.block.now 0 c.requires.1 c.loop-i.i _ c.page_of-p.ensures) _ _ c.in_ok-v.ensures

pub returns : goal.returns
returns c = row-end _ _ _ (slots_of c.args.img.now 0 c.args.block.now) c.loop-i.i _ _ _ (omega arith) c.loop-i.invariant
