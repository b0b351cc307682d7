use mathlib.Core.Path.{◌≡◌, sym}
use Prim.Native.Nat.{◌+◌, ◌*◌}
use Rattle.sums.specs.Sum.{sum-zero}
use Rattle.book.specs.Entries.{user}
use Rattle.book.specs.Words.{vol}
use Rattle.shape.specs.Counts.{count_in}
use Rattle.shape.proofs.Sums.{sum-page}
use native.Mathlib.Omega.{arith}
use Rattle.shape.proofs.tally.users_sum.Goals as goal

pub loop-p-init : goal.loop-p-init
loop-p-init c = (sym (sum-zero _), omega arith)

pub loop-p-preserved : goal.loop-p-preserved
loop-p-preserved c = let e : 32 * (c.loop-p.p + 1) ≡ 32 * c.loop-p.p + 32 = omega arith in
    rw e (sum-page (32 * c.loop-p.p) (λ u. count_in c.args.k (user (vol c.args.img.now) u)) _ _ c.loop-p.invariant.0 c.page_sum-sum.ensures.0, omega (arith, c.page_sum-sum.ensures.1))
