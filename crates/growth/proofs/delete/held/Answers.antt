-- `growth::delete::held` meets its contract. Assumes nothing.
use native.Mathlib.Omega.{arith}
use Rattle.growth.proofs.Held.{held-run, held_low, held_high}
use Rattle.growth.proofs.delete.held.Goals as goal

pub returns-then-flags-eq0 : goal.returns-then-flags-eq0
returns-then-flags-eq0 c = held-run _ _ c.if-flags-eq0.true

pub returns-then-n-le512 : goal.returns-then-n-le512
returns-then-n-le512 c = omega (arith, held_low _ c.args.n c.if-flags-eq0.false c.if-n-le512.true)

pub returns : goal.returns
returns c = omega (arith, held_high _ c.args.n c.if-flags-eq0.false (omega arith))
