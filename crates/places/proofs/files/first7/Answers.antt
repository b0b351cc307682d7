use Prim.Native.Nat.{◌+◌, ◌*◌}
use native.Mathlib.Omega.{arith}
use Rattle.book.specs.Image.{pages}
use Rattle.book.specs.Words.{vol}
use Rattle.laws.specs.Place.Rule7.{all7}
use Rattle.shape.specs.Objects.{ObjectsAt}
use Rattle.shape.specs.Shapes.{FilesRight}
use Rattle.shape.proofs.Memory.{failed}
use Rattle.shape.proofs.Objects.{objects-at, object-page-at, right-all}
use Rattle.places.proofs.Shaped.{position-found}
use Rattle.places.proofs.files.first7.Goals as goal

pub position_ok-requires : goal.position_ok-requires
position_ok-requires c = (
  record { whole = c.requires.0; count = c.requires.1; memory = c.loop-n.invariant.0 },
  objects-at c.args.img.now _ _ c.requires.0 c.requires.2 c.requires.3 c.pointer_at-pointer.ensures.flags.0 c.pointer_at-pointer.ensures.page.0,
  omega (arith, c.requires.4.most),
)

pub root_page-q-requires : goal.root_page-q-requires
root_page-q-requires c = (objects-at c.args.img.now _ _ c.requires.0 c.requires.2 c.requires.3 c.pointer_at-pointer.ensures.flags.0 c.pointer_at-pointer.ensures.page.0).reach

pub page_files-requires : goal.page_files-requires
page_files-requires c =
    let o : ObjectsAt c.args.img.now c.pointer_at-pointer.result.flags c.pointer_at-pointer.result.page = objects-at c.args.img.now _ _ c.requires.0 c.requires.2 c.requires.3 c.pointer_at-pointer.ensures.flags.0 c.pointer_at-pointer.ensures.page.0 in
    record {
      whole = c.requires.0;
      count = c.requires.1;
      inside = c.root_page-q.ensures.1;
      most = omega (arith, c.requires.4.most);
      on = object-page-at c.args.img.now c.pointer_at-pointer.result.flags c.pointer_at-pointer.result.page o c.loop-n.n c.root_page-q.result c.root_page-q.ensures.0;
    }

pub returns-then-not-position_ok : goal.returns-then-not-position_ok
returns-then-not-position_ok c = let v = vol c.args.img.now in let P = pages c.args.img.now in
    position-found P v c.loop-n.n (omega (arith, c.requires.4.most)) c.loop-n.invariant.1
    (failed (FilesRight P v (32 * c.loop-n.n) (32 * c.loop-n.n + 32)) _ c.position_ok.result c.position_ok.ensures c.if-not-position_ok.true-raw)
    c.page_files.result c.page_files.ensures

pub returns : goal.returns
returns c = all7 (pages c.args.img.now) (vol c.args.img.now) (right-all c.args.img.now c.args.ends c.requires.4 (λ e h. c.loop-n.invariant.1 e (omega arith)))
