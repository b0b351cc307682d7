use mathlib.Core.Path.{sym}
use Prim.Native.Nat.{◌+◌, ◌*◌}
use Rattle.sums.specs.Sum.{sum-zero}
use Rattle.book.specs.Words.{vol}
use Rattle.shape.specs.Counts.{pages_at}
use Rattle.shape.proofs.Sums.{sum_more, pages-past}
use native.Mathlib.Omega.{arith}
use Rattle.shape.proofs.counts.user_pages.Goals as goal

pub returns-then-ends-u : goal.returns-then-ends-u
returns-then-ends-u c = (pages-past c.args.img.now c.args.ends c.requires.1 c.args.u c.if-ends-u.true (omega arith), omega arith)

pub loop-i-init : goal.loop-i-init
loop-i-init c = (sym (sum-zero _), omega arith)

pub loop-i-preserved : goal.loop-i-preserved
loop-i-preserved c = (sum_more c.loop-i.i (λ j. pages_at (vol c.args.img.now) (8 * c.args.u + j)) _ _ c.loop-i.invariant.0 c.position_pages-sum.ensures.0, omega (arith, c.position_pages-sum.ensures.1))
