use Rattle.book.specs.Words.{vol}
use Rattle.shape.proofs.Blocks.{filled-top}
use Rattle.shape.proofs.Memory.{tested-no, again-new}
use native.Mathlib.Omega.{arith}
use Rattle.shape.proofs.block.subindex_once.Goals as goal

pub returns-then-total-t : goal.returns-then-total-t
returns-then-total-t c = tested-no _ _ (λ f. omega (arith, (filled-top _ (vol c.args.img.now) c.args.n (omega arith) 2 c.args.t f).1))

pub returns : goal.returns
returns c = again-new c.args.img.now c.args.t c.args.n c.args.trees.now _ c.mark.result c.requires.0.memory.rooted c.mark.ensures c.requires.1 c.requires.2 _ c.subindex_ok.result c.subindex_ok.ensures
