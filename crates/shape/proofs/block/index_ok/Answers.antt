use mathlib.Core.Path.{subst}
use Prim.Native.Nat.{ℕ}
use native.Mathlib.Omega.{arith}
use Rattle.book.specs.Decides.{Decides}
use Rattle.book.specs.Image.{pages}
use Rattle.book.specs.Words.{vol}
use Rattle.shape.specs.Shapes.{Filled}
use Rattle.shape.proofs.Blocks.{filled-top, decides-index}
use Rattle.shape.proofs.block.index_ok.Goals as goal

pub returns-then-b-eq0 : goal.returns-then-b-eq0
returns-then-b-eq0 c = λ f. let t = filled-top (pages c.args.img.now) (vol c.args.img.now) c.args.n (omega arith) 1 c.args.b f in omega arith

pub returns : goal.returns
returns c =
    subst (λ (P : ℕ). Decides c.filled.result (Filled P (vol c.args.img.now) 1 c.args.b c.args.n)) c.requires.1
    (decides-index c.args.img.now c.args.total c.args.b c.args.n (omega arith) (omega arith) (omega arith) (omega arith) c.filled.result c.filled.ensures)
