-- `bits::run::run_in` meets its contract. Assumes nothing.
use native.Mathlib.Omega.{arith}
use Rattle.bits.proofs.Runs.{run-held, run_none}
use Rattle.bits.proofs.run.run_in.Goals as goal

pub returns-then-w-ge-HIGHEST : goal.returns-then-w-ge-HIGHEST
returns-then-w-ge-HIGHEST c = run-held c.args.w c.args.run c.args.n c.requires.0 (omega arith) (omega arith)

pub returns : goal.returns
returns c = run_none c.args.w c.args.run c.args.n c.requires.0 c.zeros_above.result c.zeros_above.ensures (omega arith)
