-- `making::place::extend` meets its contract. Assumes nothing.
use Rattle.making.proofs.Taking.{can-take₁, extend-is}
use Rattle.tree.proofs.Ready.{ready-some}
use Rattle.making.proofs.place.extend.Goals as goal

pub take-d-requires : goal.take-d-requires
take-d-requires c = can-take₁ c.requires.0.sound (ready-some _ c.requires.0) c.requires.2 _ c.bit_page-b.ensures

pub returns : goal.returns
returns c =
    extend-is c.requires.0.sound (ready-some _ c.requires.0) c.requires.2 c.args.block c.args.k c.requires.1.real _ _ _ _ c.unreserved-s.result c.take-d.ensures c.unreserved-s.ensures.0
    c.put_two.ensures c.put_two-2.ensures
