-- `bits::run::left_in` meets its contract. Assumes nothing.
use native.Mathlib.Omega.{arith}
use Rattle.bits.proofs.Runs.{left-held, left-free, left-some}
use Rattle.bits.proofs.run.left_in.Goals as goal

pub returns-then-w-eq1 : goal.returns-then-w-eq1
returns-then-w-eq1 c = left-held c.args.w c.args.run (omega arith)

pub returns-then-w-eq0 : goal.returns-then-w-eq0
returns-then-w-eq0 c = left-free c.args.w c.args.run (omega arith)

pub returns : goal.returns
returns c = left-some c.args.w c.args.run c.zeros_below.result (omega arith) (λ e. let z : ⊥ = omega (arith, e) in z) c.zeros_below.ensures
