use Rattle.shape.proofs.Objects.{objects-at, right-all}
use native.Mathlib.Omega.{arith}
use Rattle.shape.proofs.rule7.rule7.Goals as goal

pub plain_position-requires : goal.plain_position-requires
plain_position-requires c = (
  c.requires.0,
  c.requires.1,
  objects-at c.args.img.now _ _ c.requires.0 c.requires.2 c.requires.3 c.pointer_at-pointer.ensures.flags.0 c.pointer_at-pointer.ensures.page.0,
  omega (arith, c.requires.4.most),
)

pub returns : goal.returns
returns c = right-all c.args.img.now c.args.ends c.requires.4 (λ e h. c.loop-n.invariant e (omega arith))
