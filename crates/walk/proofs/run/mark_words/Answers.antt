-- `walk::run::mark_words` meets its contract. Assumes nothing.
use Rattle.std.specs.Prelude.{Some, None}
use Rattle.std.proofs.Common.{◌+◌, ◌*◌, refl, arith}
use Rattle.book.specs.Image.{pages}
use Rattle.walk.proofs.Walks.{row-start, row-end}
use Rattle.walk.proofs.Runs.{run_of, run-walking, run_on, run-met}
use Rattle.walk.proofs.run.mark_words.Goals as goal

pub loop-i-init : goal.loop-i-init
loop-i-init c = row-start _ _ _ _

pub mark_word-requires : goal.mark_word-requires
mark_word-requires c = (run-walking _ (16 * c.args.w) (16 * c.args.n) c.requires.1 _ _ (16 * c.loop-i.i) _ _ (omega arith) c.requires.0 c.loop-i.invariant, omega arith)

pub returns-in_err-v : goal.returns-in_err-v
returns-in_err-v c =
    let P = pages c.args.img.now in
    rw c.from_residual.ensures (
    run-met P c.args.marks.now c.args.visited (16 * c.args.w) (16 * c.loop-i.i + 16) c.mark_word.new.marks
    (run_on P c.args.marks.now c.args.visited (16 * c.args.w) (16 * c.loop-i.i) _ c.loop-i.v c.loop-i.invariant (16 * (c.args.w + c.loop-i.i)) 16 (16 * c.loop-i.i + 16) (omega arith) refl c.mark_word.new.marks None c.in_err-v.ensures)
    (16 * c.args.n) (omega arith) c.mark_word.new.marks
    )

pub loop-i-preserved : goal.loop-i-preserved
loop-i-preserved c =
    run_on (pages c.args.img.now) c.args.marks.now c.args.visited (16 * c.args.w) (16 * c.loop-i.i) _ c.loop-i.v c.loop-i.invariant (16 * (c.args.w + c.loop-i.i)) 16 (16 * (c.loop-i.i + 1)) (omega arith) (omega arith)
    c.mark_word.new.marks (Some c.in_ok-v.v) c.in_ok-v.ensures

pub returns : goal.returns
returns c = row-end _ _ _ (run_of (16 * c.args.w)) (16 * c.loop-i.i) (16 * c.args.n) _ _ (omega arith) c.loop-i.invariant
