-- `convert::all::refill_all` meets its contract. Assumes nothing.
use mathlib.Core.Path.{refl, ◌∙◌}
use native.Mathlib.Omega.{arith}
use Rattle.book.specs.Words.{vol}
use Rattle.book.specs.Image.{pages}
use Rattle.convert.proofs.Passes.{ready-again, remade-sound, remade-none, remade-more}
use Rattle.convert.proofs.all.refill_all.Goals as goal

pub loop-n-init : goal.loop-n-init
loop-n-init c = (refl, remade-none _ _ _)

pub refill_one-requires : goal.refill_one-requires
refill_one-requires c =
    ready-again c.args.img.now c.loop-n.img c.requires.0 c.loop-n.invariant.0 _ c.loop-n.invariant.1
    (remade-sound c.args.typed (pages c.args.img.now) c.args.mark (omega (arith, c.requires.0.whole.least)) c.requires.2 (vol c.args.img.now) c.requires.0.sound c.loop-n.n (omega (arith, c.requires.1)))

pub loop-n-preserved : goal.loop-n-preserved
loop-n-preserved c = (c.refill_one.auto.img ∙ c.loop-n.invariant.0, remade-more _ _ _ (vol c.loop-n.img) _ c.loop-n.n c.loop-n.invariant.1 c.refill_one.ensures)
