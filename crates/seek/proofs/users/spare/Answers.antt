-- `seek::users::spare` meets its contract. Assumes nothing.
use Rattle.book.specs.Entries.{spare}
use Rattle.seek.proofs.Ready.{ready-within}
use native.Mathlib.Omega.{arith}
use Rattle.seek.proofs.users.spare.Goals as goal

pub overflow_sub-result : goal.overflow_sub-result
overflow_sub-result c = omega (arith, ready-within _ c.requires.0 c.args.u c.requires.1 c.requires.2)

pub returns : goal.returns
unfolding spare
returns c = omega arith
