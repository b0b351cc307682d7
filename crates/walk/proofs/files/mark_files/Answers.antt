-- `walk::files::mark_files` meets its contract. Assumes nothing.
use Rattle.std.specs.Prelude.{Some, None}
use Rattle.std.proofs.Common.{refl, arith}
use Rattle.book.specs.Image.{pages}
use Rattle.book.specs.Words.{vol}
use Rattle.tree.proofs.Reach.{reach-same, object-root}
use Rattle.walk.proofs.Walks.{row-start, row_on, row-met, row-end}
use Rattle.walk.proofs.Entries.{positions_of, positions-walking, walked-files}
use Rattle.walk.proofs.files.mark_files.Goals as goal

pub loop-n-init : goal.loop-n-init
loop-n-init c = row-start _ _ _ _

pub mark_position-requires : goal.mark_position-requires
mark_position-requires c = (
  positions-walking c.args.img.now c.requires.2 c.loop-n.n (omega (arith, c.requires.3.most)) _ _ _ _ c.requires.0 c.loop-n.invariant,
  c.requires.2,
  omega (arith, c.requires.3.most),
  object-root (vol c.args.img.now) c.pointer_at-pointer.result.flags c.pointer_at-pointer.result.page c.pointer_at-pointer.ensures.flags.0 c.pointer_at-pointer.ensures.page.0,
  reach-same _ _ _ (object-root (vol c.args.img.now) c.pointer_at-pointer.result.flags c.pointer_at-pointer.result.page c.pointer_at-pointer.ensures.flags.0 c.pointer_at-pointer.ensures.page.0) c.requires.1,
)

pub returns-in_err-v : goal.returns-in_err-v
returns-in_err-v c =
    rw c.from_residual.ensures (
    walked-files (pages c.args.img.now) c.args.marks.now c.args.visited c.args.img.now c.args.ends c.requires.3 c.mark_position.new.marks None
    (row-met (pages c.args.img.now) c.args.marks.now c.args.visited (positions_of c.args.img.now) c.loop-n.n _ _ c.loop-n.invariant _ (λ g. refl) c.mark_position.new.marks c.in_err-v.ensures c.args.ends (omega arith) c.mark_position.new.marks)
    )

pub loop-n-preserved : goal.loop-n-preserved
loop-n-preserved c = row_on _ _ _ (positions_of c.args.img.now) c.loop-n.n _ _ c.loop-n.invariant _ (λ g. refl) _ _ c.in_ok-v.ensures

pub returns : goal.returns
returns c = walked-files _ _ _ c.args.img.now c.args.ends c.requires.3 _ (Some c.loop-n.v) (row-end _ _ _ (positions_of c.args.img.now) c.loop-n.n _ _ _ (omega arith) c.loop-n.invariant)
