-- `walk::pages::mark_row` meets its contract. Assumes nothing.
use Rattle.std.specs.Prelude.{None}
use Rattle.std.proofs.Common.{◌+◌, ◌-◌, arith}
use Rattle.book.specs.Words.{vol}
use Rattle.book.specs.Trees.{weigh}
use Rattle.book.specs.Image.{pages}
use Rattle.walk.specs.Walked.{Weigher}
use Rattle.walk.proofs.Walks.{row_of, walking_on, walked_same, walked_then, then-met}
use Rattle.walk.proofs.Pointers.{slots_of, slot-below, tree-counts}
use Rattle.walk.proofs.Runs.{run_of}
use Rattle.walk.proofs.Rows.{row-weigh, row_fits}
use Rattle.walk.proofs.pages.mark_row.Goals as goal

pub returns-in_err-x : goal.returns-in_err-x
returns-in_err-x c =
    let W : Weigher = weigh (vol c.args.img.now) 0 c.page_in-first.result in
    let X : Weigher = row_of (run_of c.page_in-start.result) (c.args.n - 1) in
    rw c.from_residual.ensures (
    walked_same (pages c.args.img.now) c.args.marks.now c.args.visited (λ g. W g + X g) (row_of (slots_of c.args.img.now 0 c.args.block.now) c.args.n) (row-weigh c.args.img.now c.args.block.now c.args.n c.requires.3 c.page_in-start.result c.page_in-start.ensures c.page_in-first.result c.page_in-first.ensures)
    c.mark_page.new.marks None (then-met (pages c.args.img.now) c.args.marks.now c.args.visited W X c.mark_page.new.marks c.mark_page.new.marks c.in_err-x.ensures)
    )

pub mark_run-requires : goal.mark_run-requires
mark_run-requires c = (
  walking_on c.args.img.now c.args.marks.now c.args.visited (weigh (vol c.args.img.now) 0 c.page_in-first.result) _ _ c.requires.0
      (tree-counts (vol c.args.img.now) (pages c.args.img.now) 0 c.page_in-first.result (slot-below c.args.img.now c.args.block.now 0 c.requires.1 0 (omega arith) c.page_in-first.result c.page_in-first.ensures))
      c.in_ok-x.ensures,
  row_fits c.args.img.now c.args.block.now c.args.n c.requires.3 c.page_in-start.result c.page_in-start.ensures c.requires.1 c.requires.2,
  omega (arith, c.requires.3.long),
)

pub returns : goal.returns
returns c =
    let W : Weigher = weigh (vol c.args.img.now) 0 c.page_in-first.result in
    let X : Weigher = row_of (run_of c.page_in-start.result) (c.args.n - 1) in
    walked_same (pages c.args.img.now) c.args.marks.now c.args.visited (λ g. W g + X g) (row_of (slots_of c.args.img.now 0 c.args.block.now) c.args.n) (row-weigh c.args.img.now c.args.block.now c.args.n c.requires.3 c.page_in-start.result c.page_in-start.ensures c.page_in-first.result c.page_in-first.ensures)
    c.mark_run.new.marks c.mark_run.result
    (walked_then (pages c.args.img.now) c.args.marks.now c.args.visited W c.mark_page.new.marks _ c.in_ok-x.ensures X c.mark_run.new.marks c.mark_run.result c.mark_run.ensures)
