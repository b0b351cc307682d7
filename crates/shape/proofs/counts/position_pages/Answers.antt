use Rattle.book.specs.Words.{vol}
use Rattle.shape.proofs.Objects.{object-page-at}
use Rattle.shape.proofs.Sums.{pages-absent}
use native.Mathlib.Omega.{arith}
use Rattle.shape.proofs.counts.position_pages.Goals as goal

pub returns-then-q-eq0 : goal.returns-then-q-eq0
returns-then-q-eq0 c = (pages-absent (vol c.args.img.now) c.args.n c.root_page-q.result (object-page-at c.args.img.now c.args.pointer.flags c.args.pointer.page c.requires.0 c.args.n c.root_page-q.result c.root_page-q.ensures.0) c.if-q-eq0.true, omega arith)

pub page_pages-requires : goal.page_pages-requires
page_pages-requires c = (c.root_page-q.ensures.1, c.requires.1, object-page-at c.args.img.now c.args.pointer.flags c.args.pointer.page c.requires.0 c.args.n c.root_page-q.result c.root_page-q.ensures.0)
