use Rattle.places.proofs.All.{met-total, held-once, held_first}
use Rattle.book.specs.Image.{pages}
use Rattle.book.specs.Words.{vol}
use native.Mathlib.Omega.{arith}
use mathlib.Core.Path.{refl}
use Rattle.places.proofs.held.first8.Goals as goal

pub returns-then-total-low : goal.returns-then-total-low
returns-then-total-low c =
    let P = pages c.args.img.now in let v = vol c.args.img.now in
    held-once P v 140733 _ c.most_marks-marks.ensures _ c.mark.result c.mark.ensures _ _ c.none_opened-ones.ensures c.none_opened-twos.ensures _ _ _ c.meet_all-low.result
    (met-total P v _ _ _ c.args.total c.requires.1 _ _ _ _ _ c.meet_all-low.ensures) (omega arith)

pub returns : goal.returns
returns c =
    let P = pages c.args.img.now in let v = vol c.args.img.now in
    held_first P v 140733 _ c.most_marks-marks.ensures _ c.mark.result c.mark.ensures _ _ c.none_opened-ones.ensures c.none_opened-twos.ensures _ _ _ c.meet_all-low.result
    (met-total P v _ _ _ c.args.total c.requires.1 _ _ _ _ _ c.meet_all-low.ensures) (omega arith) _ refl
