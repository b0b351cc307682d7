use Rattle.std.proofs.Common.{◌≡◌, ap, sym, ◌∙◌, get_or, arith}
use Prim.Native.Nat.{ℕ}
use Rattle.sums.specs.Sum.{sum as sum_of, sum-zero}
use Rattle.shape.proofs.Sums.{sum_more}
use Rattle.salvage.proofs.counts.sum_counts.Goals as goal

pub loop-n-init : goal.loop-n-init
loop-n-init c = (sym (sum-zero _), omega arith)

pub loop-n-preserved : goal.loop-n-preserved
loop-n-preserved c = (sum_more c.loop-n.n-index (λ i. get_or c.args.counts.now i 0) _ _ c.loop-n.invariant.0 c.from-sum.ensures, omega (arith, c.fits-counts c.loop-n.n-index))

pub returns : goal.returns
returns c = let e : c.loop-n.n-index ≡ 256 = omega arith in
    (c.loop-n.invariant.0 ∙ ap (λ (m : ℕ). sum_of m (λ i. get_or c.args.counts.now i 0)) e, omega arith)
