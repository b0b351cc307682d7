use Rattle.shape.proofs.Memory.{tested-yes}
use Rattle.shape.proofs.Objects.{object-page-at, right-absent}
use Rattle.shape.proofs.rule7.position_ok.Goals as goal

pub returns-then-q-eq0 : goal.returns-then-q-eq0
returns-then-q-eq0 c = tested-yes _ _ (right-absent _ _ c.args.n c.root_page-q.result (object-page-at c.args.img.now c.args.pointer.flags c.args.pointer.page c.requires.1 c.args.n c.root_page-q.result c.root_page-q.ensures.0) c.if-q-eq0.true) c.requires.0.memory

pub page_ok-requires : goal.page_ok-requires
page_ok-requires c = (c.requires.0, c.root_page-q.ensures.1, c.requires.2, object-page-at c.args.img.now c.args.pointer.flags c.args.pointer.page c.requires.1 c.args.n c.root_page-q.result c.root_page-q.ensures.0)
