use Rattle.book.specs.Image.{pages}
use Rattle.book.specs.Words.{vol}
use Rattle.shape.specs.Shapes.{Filled}
use Rattle.shape.proofs.Blocks.{filled-top}
use Rattle.shape.proofs.Memory.{tested-no, once-new}
use native.Mathlib.Omega.{arith}
use Rattle.shape.proofs.block.index_once.Goals as goal

pub returns-then-total-b : goal.returns-then-total-b
returns-then-total-b c = tested-no (Filled (pages c.args.img.now) (vol c.args.img.now) 1 c.args.b c.args.n) _ (λ f. omega (arith, (filled-top _ (vol c.args.img.now) c.args.n (omega arith) 1 c.args.b f).1))

pub returns : goal.returns
returns c = once-new c.args.img.now c.args.b c.args.n (omega arith) c.args.seen.now _ c.mark.result c.requires.0.memory c.mark.ensures c.index_ok-2.result c.index_ok-2.ensures
