-- `walk::run::mark_each` meets its contract. Assumes nothing.
use Rattle.std.proofs.Common.{arith}
use Rattle.book.specs.Words.{vol}
use Rattle.walk.proofs.Walks.{row-start, row_on, row-met, row-end}
use Rattle.walk.proofs.Runs.{run_of, run-walking, page-below, page-weigh}
use Rattle.walk.proofs.run.mark_each.Goals as goal

pub loop-i-init : goal.loop-i-init
loop-i-init c = row-start _ _ _ _

pub mark_page-requires : goal.mark_page-requires
mark_page-requires c = (run-walking _ _ _ c.requires.1 _ _ c.loop-i.i _ _ (omega arith) c.requires.0 c.loop-i.invariant, page-below _ _ _ (omega arith))

pub returns-in_err-v : goal.returns-in_err-v
returns-in_err-v c = rw c.from_residual.ensures (row-met _ _ _ (run_of c.args.start) c.loop-i.i _ _ c.loop-i.invariant _ (page-weigh (vol c.args.img.now) _) c.mark_page.new.marks c.in_err-v.ensures c.args.count (omega arith) c.mark_page.new.marks)

pub loop-i-preserved : goal.loop-i-preserved
loop-i-preserved c = row_on _ _ _ (run_of c.args.start) c.loop-i.i _ _ c.loop-i.invariant _ (page-weigh (vol c.args.img.now) _) _ _ c.in_ok-v.ensures

pub returns : goal.returns
returns c = row-end _ _ _ (run_of c.args.start) c.loop-i.i _ _ _ (omega arith) c.loop-i.invariant
