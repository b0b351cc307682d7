use Rattle.book.specs.Enter.{Known}
use Rattle.book.specs.Run.{Made}
use Rattle.run.proofs.run.Given as goal

abbrev pub invariant-loop-i : goal.invariant-loop-i
invariant-loop-i l = Made l.steps l.text l.words l.initial.img l.initial.list l.initial.out l.i l.img l.list l.out × Known l.known l.img
