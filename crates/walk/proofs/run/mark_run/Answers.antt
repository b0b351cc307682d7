-- `walk::run::mark_run` meets its contract. Assumes nothing.
use Rattle.std.proofs.Common.{◌+◌, ◌-◌, ◌*◌, arith}
use Rattle.book.specs.Image.{pages}
use Rattle.walk.proofs.Runs.{run-walking, run_on, run-met}
use Rattle.walk.proofs.run.mark_run.Goals as goal

pub returns-in_err-n : goal.returns-in_err-n
returns-in_err-n c =
    rw c.from_residual.ensures (
    run-met (pages c.args.img.now) c.args.marks.now c.args.visited c.args.start (16 * c.div_ceil-w.result - c.args.start) c.mark_each.new.marks c.in_err-n.ensures
    c.args.count (omega (arith, c.requires.2)) c.mark_each.new.marks
    )

pub mark_from-requires : goal.mark_from-requires
mark_from-requires c = (
  run-walking c.args.img.now c.args.start c.args.count c.requires.1 c.args.marks.now c.args.visited (16 * c.div_ceil-w.result - c.args.start) _ _ (omega (arith, c.requires.2)) c.requires.0 c.in_ok-n.ensures,
  omega (arith, c.requires.2),
  c.requires.1,
)

pub returns : goal.returns
returns c =
    run_on (pages c.args.img.now) c.args.marks.now c.args.visited c.args.start (16 * c.div_ceil-w.result - c.args.start) c.mark_each.new.marks _ c.in_ok-n.ensures
    (16 * c.div_ceil-w.result) (c.args.start + c.args.count - 16 * c.div_ceil-w.result) c.args.count (omega arith) (omega (arith, c.requires.2))
    c.mark_from.new.marks c.mark_from.result c.mark_from.ensures
