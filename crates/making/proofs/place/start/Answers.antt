-- `making::place::start` meets its contract. Assumes nothing.
use Rattle.making.proofs.Taking.{can-take₁, can-take₂, can-take₃, start_is}
use Rattle.tree.proofs.Ready.{ready-some}
use native.Mathlib.Omega.{arith}
use Rattle.making.proofs.place.start.Goals as goal

pub take-i-requires : goal.take-i-requires
take-i-requires c = can-take₁ c.requires.0.sound (ready-some _ c.requires.0) (omega arith) _ c.bit_page-b.ensures

pub take-q-requires : goal.take-q-requires
take-q-requires c = can-take₂ c.requires.0.sound (ready-some _ c.requires.0) (omega arith) _ c.bit_page-b.ensures _ _ _ c.take-i.ensures (omega arith)

pub take-o-requires : goal.take-o-requires
take-o-requires c = can-take₃ c.requires.0.sound (ready-some _ c.requires.0) _ _ _ _ _ c.take-i.ensures (omega arith) c.take-q.ensures c.requires.1 _ c.bit_page-b.ensures _ (omega arith)

pub returns : goal.returns
returns c =
    start_is c.requires.0.sound (ready-some _ c.requires.0) _ _ _ _ _ c.take-i.ensures (omega arith) c.take-q.ensures c.requires.1 _ _ _ _ _ _ _
    c.unreserved-s.result c.pointer_to.result c.pointer_to-2.result (omega arith) c.take-o.ensures
    c.unreserved-s.ensures.0 c.pointer_to.ensures c.pointer_to-2.ensures c.put_two.ensures c.put_two-2.ensures c.put_two-3.ensures c.put_two-4.ensures
