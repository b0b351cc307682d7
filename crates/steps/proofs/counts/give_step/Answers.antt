-- `steps::counts::give_step` meets its contract. Assumes nothing.
use Rattle.std.proofs.Common.{arith}
use Rattle.steps.proofs.Ready.{ready-room}
use Rattle.steps.proofs.counts.give_step.Goals as goal

pub overflow_add-g : goal.overflow_add-g
overflow_add-g c = record { fits = omega (arith, ready-room _ c.requires.0 c.args.u c.requires.1 c.requires.2, c.requires.3, c.given-g.ensures.0) }
