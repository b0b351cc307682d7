-- `walk::run::mark_from` meets its contract. Assumes nothing.
use Rattle.std.proofs.Common.{◌-◌, ◌*◌, ◌/◌, arith}
use Rattle.book.specs.Image.{pages}
use Rattle.walk.proofs.Runs.{run-walking, run_on, run-met}
use Rattle.walk.proofs.run.mark_from.Goals as goal

pub returns-in_err-n : goal.returns-in_err-n
returns-in_err-n c =
    rw c.from_residual.ensures (
    run-met (pages c.args.img.now) c.args.marks.now c.args.visited (16 * c.args.w) (16 * (c.args.until / 16 - c.args.w)) c.mark_words.new.marks c.in_err-n.ensures
    (c.args.until - 16 * c.args.w) (omega (arith, c.requires.1)) c.mark_words.new.marks
    )

pub mark_each-requires : goal.mark_each-requires
mark_each-requires c = (
  run-walking c.args.img.now (16 * c.args.w) (16 * (c.args.until / 16 - c.args.w)) (omega (arith, c.requires.1, c.requires.2)) c.args.marks.now c.args.visited (16 * (c.args.until / 16 - c.args.w)) _ _ (omega arith) c.requires.0 c.in_ok-n.ensures,
  omega (arith, c.requires.2),
)

pub returns : goal.returns
returns c =
    run_on (pages c.args.img.now) c.args.marks.now c.args.visited (16 * c.args.w) (16 * (c.args.until / 16 - c.args.w)) c.mark_words.new.marks _ c.in_ok-n.ensures
    (16 * (c.args.until / 16)) (c.args.until - 16 * (c.args.until / 16)) (c.args.until - 16 * c.args.w) (omega (arith, c.requires.1)) (omega (arith, c.requires.1))
    c.mark_each.new.marks c.mark_each.result c.mark_each.ensures
