use Rattle.sums.specs.Sum.{sum}
use Rattle.book.specs.Holders.{mine, system}
use mathlib.Core.Path.{refl}
use Rattle.book.specs.Image.{pages}
use Rattle.book.specs.Words.{vol}
use Rattle.std.specs.Prelude.{None}
use Rattle.walk.proofs.Walks.{walked_then, then-met, walking_on}
use Rattle.walk.proofs.Holding.{system-counts, files-fit, objects-reach, first-mark, first-walking, held}
use Rattle.walk.proofs.volume.mark_all.Goals as goal

pub mark_system-requires : goal.mark_system-requires
mark_system-requires c = let P = pages c.args.img.now in
    (first-walking P c.args.marks.now c.requires.0 _ (first-mark P c.args.marks.now c.requires.0 _ c.mark.result c.mark.ensures) c.args.img.now refl c.requires.1, c.requires.1, c.requires.2, c.requires.3)

pub mark_files-requires : goal.mark_files-requires
mark_files-requires c = let P = pages c.args.img.now in
    let d = first-mark P c.args.marks.now c.requires.0 _ c.mark.result c.mark.ensures in (
      walking_on c.args.img.now _ 1 _ _ _ (first-walking P c.args.marks.now c.requires.0 _ d c.args.img.now refl c.requires.1) (system-counts c.args.img.now c.requires.1) c.in_ok-n.ensures,
      objects-reach c.args.img.now c.requires.1,
      files-fit c.args.img.now c.requires.1,
      c.requires.3,
    )

pub returns : goal.returns
returns c = let v = vol c.args.img.now in let P = pages c.args.img.now in
    held P c.args.marks.now c.requires.0 _ (first-mark P c.args.marks.now c.requires.0 _ c.mark.result c.mark.ensures) v c.mark_files.new.marks c.mark_files.result
    (walked_then P _ 1 (system P v) c.mark_system.new.marks _ c.in_ok-n.ensures (λ g. sum 256 (λ u. mine v u g)) c.mark_files.new.marks c.mark_files.result c.mark_files.ensures)

pub returns-in_err-n : goal.returns-in_err-n
returns-in_err-n c = let v = vol c.args.img.now in let P = pages c.args.img.now in
    rw c.from_residual.ensures (
    held P c.args.marks.now c.requires.0 _ (first-mark P c.args.marks.now c.requires.0 _ c.mark.result c.mark.ensures) v c.mark_system.new.marks None
    (then-met P _ 1 (system P v) (λ g. sum 256 (λ u. mine v u g)) c.mark_system.new.marks c.mark_system.new.marks c.in_err-n.ensures)
    )
