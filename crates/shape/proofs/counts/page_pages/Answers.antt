use native.Mathlib.Omega.{arith}
use mathlib.Core.Path.{sym, ◌∙◌}
use Prim.Native.Nat.{◌+◌, ◌*◌}
use Rattle.sums.specs.Sum.{sum-zero}
use Rattle.book.specs.Entries.{object}
use Rattle.book.specs.Words.{vol}
use Rattle.laws.specs.Count.Charge.{entry_pages}
use Rattle.shape.proofs.Sums.{sum_more, pages-at}
use native.Mathlib.Omega.{arith}
use Rattle.shape.proofs.counts.page_pages.Goals as goal

pub loop-k-init : goal.loop-k-init
loop-k-init c = (sym (sum-zero _), omega arith)

pub loop-k-preserved : goal.loop-k-preserved
loop-k-preserved c = let v = vol c.args.img.now in
    (sum_more c.loop-k.k (λ i. entry_pages (object v (32 * c.args.n + i))) _ _ c.loop-k.invariant.0 (c.entry_pages-sum.ensures.0 ∙ pages-at v c.args.n c.loop-k.k c.args.q (omega arith) c.requires.2), omega (arith, c.entry_pages-sum.ensures.1))
