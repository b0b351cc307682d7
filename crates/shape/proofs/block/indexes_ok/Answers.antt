use mathlib.Core.Path.{sym, subst₂}
use Prim.Native.Nat.{ℕ}
use borrow.Author.Count.{below_more}
use Rattle.book.specs.Image.{pages}
use Rattle.book.specs.Words.{vol}
use Rattle.shape.specs.Shapes.{Filled, Indexes}
use Rattle.tree.proofs.Blocks.{pointer_read}
use Rattle.shape.proofs.Memory.{tested-no, passed, failed}
use native.Mathlib.Omega.{arith}
use Rattle.shape.proofs.block.indexes_ok.Goals as goal

pub returns-then-not-index_once : goal.returns-then-not-index_once
returns-then-not-index_once c = let P = pages c.args.img.now in let v = vol c.args.img.now in
    let x = pointer_read c.args.block.now c.loop-k.k _ c.dword.ensures.0 in
    tested-no (Indexes P v c.args.block.now c.args.n c.args.m) _ (λ all.
    failed _ _ c.index_once.result c.index_once.ensures c.if-not-index_once.true-raw (subst₂ (λ (p q : ℕ). Filled P v 1 p q) (sym x) (sym c.share.ensures.0) (all c.loop-k.k (omega arith))))

pub loop-k-preserved : goal.loop-k-preserved
loop-k-preserved c = let P = pages c.args.img.now in let v = vol c.args.img.now in
    let x = pointer_read c.args.block.now c.loop-k.k _ c.dword.ensures.0 in
    let w = passed _ _ c.index_once.result c.index_once.ensures c.if-not-index_once.false-raw in
    (w.1, below_more _ c.loop-k.k c.loop-k.invariant.1 (subst₂ (λ (p q : ℕ). Filled P v 1 p q) x c.share.ensures.0 w.0))
