-- `walk::run::mark_word` meets its contract. Assumes nothing.
use Rattle.std.proofs.Common.{arith}
use Rattle.walk.proofs.Runs.{word-walked, word_fits}
use Rattle.walk.proofs.run.mark_word.Goals as goal

pub overflow_add-result : goal.overflow_add-result
overflow_add-result c = omega (arith, word_fits c.args.img.now c.args.marks.now c.args.visited c.args.w _ c.requires.0 c.if-fill.ensures c.requires.1)

pub returns-then-fill : goal.returns-then-fill
returns-then-fill c = word-walked c.args.img.now c.args.marks.now c.args.visited c.args.w _ c.requires.0 c.if-fill.ensures
