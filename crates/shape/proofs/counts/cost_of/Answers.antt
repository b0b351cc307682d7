use Rattle.book.specs.Files.{cost}
use native.Mathlib.Omega.{arith}
use Rattle.shape.proofs.counts.cost_of.Goals as goal

pub returns-then-n-le512 : goal.returns-then-n-le512
unfolding cost
returns-then-n-le512 c = omega arith

pub returns : goal.returns
unfolding cost
returns c = omega arith
