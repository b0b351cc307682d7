use mathlib.Core.Path.{sym, ap, ◌∙◌}
use Prim.Native.Nat.{◌+◌}
use Rattle.sums.specs.Sum.{sum-zero}
use Rattle.book.specs.Entries.{user}
use Rattle.book.specs.Words.{vol}
use Rattle.shape.specs.Counts.{count_in}
use Rattle.shape.proofs.Sums.{sum_more}
use Rattle.shape.proofs.Users.{user-at, sum-absent}
use native.Mathlib.Omega.{arith}
use Rattle.shape.proofs.tally.page_sum.Goals as goal

pub returns-then-q-eq0 : goal.returns-then-q-eq0
returns-then-q-eq0 c = (sum-absent (vol c.args.img.now) c.user_page-q.result c.args.first c.requires.2 c.user_page-q.ensures.0 c.if-q-eq0.true c.args.k, omega arith)

pub loop-i-init : goal.loop-i-init
loop-i-init c = (sym (sum-zero _), omega arith)

pub loop-i-preserved : goal.loop-i-preserved
loop-i-preserved c = let v = vol c.args.img.now in (
  sum_more c.loop-i.i (λ j. count_in c.args.k (user v (c.args.first + j))) _ _ c.loop-i.invariant.0
      (c.count_of-sum.ensures.0 ∙ ap (count_in c.args.k) (user-at v c.user_page-q.result c.args.first (c.args.first + c.loop-i.i) c.requires.2 (omega arith) (omega arith) c.user_page-q.ensures.0)),
  omega (arith, c.count_of-sum.ensures.1),
)
