use mathlib.Core.Path.{refl}
use Rattle.book.specs.Image.{pages}
use Rattle.book.specs.Words.{vol}
use Rattle.tree.proofs.Reach.{page-read}
use Rattle.walk.proofs.Entries.{walked-absent}
use Rattle.walk.proofs.files.mark_position.Goals as goal

pub returns-then-q-eq0 : goal.returns-then-q-eq0
returns-then-q-eq0 c = let v = vol c.args.img.now in let P = pages c.args.img.now in
    walked-absent P c.args.marks.now c.args.visited v c.args.n c.root_page-q.result (page-read v _ _ _ _ _ c.requires.3 refl c.root_page-q.ensures.0) c.if-q-eq0.true
