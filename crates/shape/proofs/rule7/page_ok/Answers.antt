use Prim.Native.Nat.{◌+◌, ◌*◌}
use Rattle.book.specs.Image.{pages}
use Rattle.book.specs.Words.{vol}
use Rattle.tree.specs.Reach.{entry_in}
use Rattle.shape.specs.Shapes.{EntryRight}
use Rattle.shape.proofs.Memory.{tested-no, passed, failed}
use Rattle.shape.proofs.Objects.{right-at, at_right, right-more}
use native.Mathlib.Omega.{arith}
use Rattle.shape.proofs.rule7.page_ok.Goals as goal

pub returns-then-not-entry_ok : goal.returns-then-not-entry_ok
returns-then-not-entry_ok c = let v = vol c.args.img.now in let P = pages c.args.img.now in
    tested-no _ _ (λ all. failed (EntryRight P v (entry_in v c.args.q (32 * c.args.n + c.loop-k.k))) _ c.entry_ok.result c.entry_ok.ensures c.if-not-entry_ok.true-raw (at_right v c.args.n c.loop-k.k c.args.q (omega arith) c.requires.3 P (all (32 * c.args.n + c.loop-k.k) (omega arith) (omega arith))))

pub loop-k-preserved : goal.loop-k-preserved
loop-k-preserved c = let v = vol c.args.img.now in let P = pages c.args.img.now in
    let w = passed (EntryRight P v (entry_in v c.args.q (32 * c.args.n + c.loop-k.k))) _ c.entry_ok.result c.entry_ok.ensures c.if-not-entry_ok.false-raw in
    (w.1, right-more P v (32 * c.args.n) c.loop-k.k c.loop-k.invariant.1 (right-at v c.args.n c.loop-k.k c.args.q (omega arith) c.requires.3 P w.0))
