-- `steps::counts::take_step` meets its contract. Assumes nothing.
use Rattle.std.proofs.Common.{arith}
use Rattle.book.specs.Entries.{spare}
use Rattle.steps.proofs.Ready.{ready-room}
use Rattle.steps.proofs.counts.take_step.Goals as goal

pub overflow_sub-g : goal.overflow_sub-g
unfolding spare
overflow_sub-g c = omega (arith, c.requires.3, c.given-g.ensures.0)

pub overflow_add-s : goal.overflow_add-s
unfolding spare
overflow_add-s c = record { fits = omega (arith, ready-room _ c.requires.0 c.args.u c.requires.1 c.requires.2, c.requires.3, c.unreserved-s.ensures.0) }
