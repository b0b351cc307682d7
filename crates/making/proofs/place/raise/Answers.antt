-- `making::place::raise` meets its contract. Assumes nothing.
use Rattle.making.proofs.Taking.{can-take₁, raise-is}
use Rattle.tree.proofs.Ready.{ready-some}
use Rattle.making.proofs.place.raise.Goals as goal

pub take-d-requires : goal.take-d-requires
take-d-requires c = can-take₁ c.requires.0.sound (ready-some _ c.requires.0) c.requires.1 _ c.bit_page-b.ensures

pub returns : goal.returns
returns c =
    raise-is c.requires.0.sound (ready-some _ c.requires.0) c.requires.1 _ _ _ _ _ c.unreserved-s.result c.page_at-top.result c.pointer_to.result
    c.take-d.ensures c.unreserved-s.ensures.0 c.page_at-top.ensures.0 c.pointer_to.ensures c.put_two.ensures c.put_two-2.ensures c.put_two-3.ensures
