use Prim.Native.Nat.{◌+◌, ◌*◌}
use native.Mathlib.Omega.{arith}
use Rattle.book.specs.Image.{pages}
use Rattle.book.specs.Spots.{each_all}
use Rattle.book.specs.Words.{vol}
use Rattle.tree.specs.Reach.{entry_in}
use Rattle.shape.specs.Shapes.{EntryRight}
use Rattle.shape.proofs.Memory.{passed, failed}
use Rattle.shape.proofs.Objects.{right-at, right-more}
use Rattle.places.specs.Rows.{file_row}
use Rattle.places.proofs.Shaped.{page-passed, object-at, entry_found}
use Rattle.places.proofs.files.page_files.Goals as goal

pub file-requires : goal.file-requires
file-requires c = object-at c.args.img.now c.args.total c.args.q c.args.n c.loop-k.k c.requires (omega arith)

pub returns-then-not-entry_ok : goal.returns-then-not-entry_ok
returns-then-not-entry_ok c = let v = vol c.args.img.now in let P = pages c.args.img.now in
    entry_found c.args.img.now c.args.total c.args.q c.args.n c.loop-k.k c.requires (omega arith)
    (failed (EntryRight P v (entry_in v c.args.q (32 * c.args.n + c.loop-k.k))) _ c.entry_ok.result c.entry_ok.ensures c.if-not-entry_ok.true-raw)
    c.loop-k.invariant.1 c.file.result c.file.ensures

pub loop-k-preserved : goal.loop-k-preserved
loop-k-preserved c = let v = vol c.args.img.now in let P = pages c.args.img.now in
    let w = passed (EntryRight P v (entry_in v c.args.q (32 * c.args.n + c.loop-k.k))) _ c.entry_ok.result c.entry_ok.ensures c.if-not-entry_ok.false-raw in
    (w.1, right-more P v (32 * c.args.n) c.loop-k.k c.loop-k.invariant.1 (right-at v c.args.n c.loop-k.k c.args.q (omega arith) c.requires.on P w.0), omega arith, omega arith)

pub returns : goal.returns
returns c = let v = vol c.args.img.now in let P = pages c.args.img.now in
    each_all 32 c.loop-k.k (λ i. file_row P v (32 * c.args.n + i)) (omega arith) (page-passed P v (32 * c.args.n) c.loop-k.k c.loop-k.invariant.1)
