use native.Mathlib.Omega.{arith}
use lib.ListN.{length-set}
use Rattle.run.proofs.reply.place.Goals as goal

pub bounds-out-at-2 : goal.bounds-out-at-2
bounds-out-at-2 c = simp length-set (omega arith)
