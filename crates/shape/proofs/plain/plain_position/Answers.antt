use Rattle.shape.proofs.Objects.{object-page-at, right-absent}
use Rattle.shape.proofs.plain.plain_position.Goals as goal

pub returns-then-q-eq0 : goal.returns-then-q-eq0
returns-then-q-eq0 c = λ t. right-absent _ _ c.args.n c.root_page-q.result (object-page-at c.args.img.now c.args.pointer.flags c.args.pointer.page c.requires.2 c.args.n c.root_page-q.result c.root_page-q.ensures.0) c.if-q-eq0.true

pub plain_page-requires : goal.plain_page-requires
plain_page-requires c = (c.requires.0, c.requires.1, c.root_page-q.ensures.1, c.requires.3, object-page-at c.args.img.now c.args.pointer.flags c.args.pointer.page c.requires.2 c.args.n c.root_page-q.result c.root_page-q.ensures.0)
