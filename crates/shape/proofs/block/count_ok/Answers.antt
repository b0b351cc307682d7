use mathlib.Core.Path.{sym, ◌∙◌, subst}
use mathlib.Core.Bool.{Bool, not}
use Rattle.std.proofs.Common.{eq-eqb}
use Rattle.book.specs.Decides.{Decides}
use Rattle.book.specs.Image.{pages}
use Rattle.book.specs.Words.{vol}
use Rattle.shape.specs.Shapes.{Filled}
use Rattle.shape.proofs.Memory.{reach-tree, no_last, decides-count}
use native.Mathlib.Omega.{arith}
use Rattle.shape.proofs.block.count_ok.Goals as goal

pub root_page-requires : goal.root_page-requires
root_page-requires c = reach-tree c.args.img.now c.args.t c.requires.0

pub root_page-requires-then-root_page-ne0 : goal.root_page-requires-then-root_page-ne0
root_page-requires-then-root_page-ne0 c = reach-tree c.args.img.now c.args.t c.requires.0

pub returns-else-root_page-ne0 : goal.returns-else-root_page-ne0
returns-else-root_page-ne0 c =
    subst (λ (b : Bool). Decides (not b) (Filled (pages c.args.img.now) (vol c.args.img.now) 2 c.args.t c.args.n)) (sym (eq-eqb _ 0 c.if-root_page-ne0.false))
    (no_last c.args.img.now c.args.t c.args.n c.requires.0 c.requires.1 c.requires.2 (sym c.root_page.ensures.0 ∙ c.if-root_page-ne0.false))

pub returns-then-root_page-ne0 : goal.returns-then-root_page-ne0
returns-then-root_page-ne0 c =
    decides-count c.args.img.now c.args.t c.args.n c.requires.0 c.requires.1 c.requires.2 c.root_page-then-root_page-ne0.result c.root_page-then-root_page-ne0.ensures.0
    (omega (arith, c.root_page.ensures.0, c.if-root_page-ne0.true))
