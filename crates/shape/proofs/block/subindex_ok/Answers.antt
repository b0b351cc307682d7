use Rattle.book.specs.Image.{pages}
use Rattle.book.specs.Words.{vol}
use Rattle.shape.proofs.Blocks.{filled-top, decides-subindex}
use Rattle.shape.proofs.Memory.{tested-no, tested-as}
use native.Mathlib.Omega.{arith}
use Rattle.shape.proofs.block.subindex_ok.Goals as goal

pub returns-then-t-eq0 : goal.returns-then-t-eq0
returns-then-t-eq0 c = tested-no _ _ (λ f. let t = filled-top (pages c.args.img.now) (vol c.args.img.now) c.args.n (omega arith) 2 c.args.t f in omega arith)

pub returns : goal.returns
returns c =
    tested-as _ _ c.subindex_block.result _
    (decides-subindex c.args.img.now (pages c.args.img.now) c.args.t c.args.n (omega arith) (omega arith) (omega arith) (omega arith) c.subindex_block.result) c.subindex_block.ensures
