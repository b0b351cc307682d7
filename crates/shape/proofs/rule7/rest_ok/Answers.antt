use Prim.Native.Nat.{◌+◌, ◌*◌}
use Rattle.book.specs.Image.{pages}
use Rattle.book.specs.Words.{vol}
use Rattle.shape.specs.Shapes.{FilesRight}
use Rattle.shape.proofs.Memory.{failed}
use Rattle.shape.proofs.Objects.{objects-at, right-all, all_right}
use native.Mathlib.Omega.{arith}
use Rattle.shape.proofs.rule7.rest_ok.Goals as goal

pub position_ok-requires : goal.position_ok-requires
position_ok-requires c = (
  record { whole = c.requires.0.whole; count = c.requires.0.count; memory = c.loop-n.invariant.0 },
  objects-at c.args.img.now _ _ c.requires.0.whole c.requires.1 c.requires.2 c.pointer_at-pointer.ensures.flags.0 c.pointer_at-pointer.ensures.page.0,
  omega (arith, c.requires.3.most),
)

pub returns-then-not-position_ok : goal.returns-then-not-position_ok
returns-then-not-position_ok c = λ r.
    let v = vol c.args.img.now in let P = pages c.args.img.now in
    failed (FilesRight P v (32 * c.loop-n.n) (32 * c.loop-n.n + 32)) _ c.position_ok.result c.position_ok.ensures c.if-not-position_ok.true-raw (all_right P v r (32 * c.loop-n.n) (32 * c.loop-n.n + 32) (omega (arith, c.requires.3.most)))

pub returns : goal.returns
returns c = right-all c.args.img.now c.args.ends c.requires.3 (λ e h. c.loop-n.invariant.1 e (omega arith))
