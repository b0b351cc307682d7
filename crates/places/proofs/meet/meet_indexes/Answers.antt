use Rattle.places.proofs.Steps.{rows_none, rows_more, rows_end, index_same}
use Rattle.book.specs.Trees.{weigh, Below}
use Rattle.book.specs.Pointers.{slot}
use Rattle.book.specs.Image.{pages}
use Rattle.book.specs.Words.{vol}
use Rattle.book.specs.Holders.{hit}
use native.Mathlib.Omega.{arith}
use Rattle.places.proofs.meet.meet_indexes.Goals as goal

pub loop-k-init : goal.loop-k-init
loop-k-init c = let P = pages c.args.img.now in let v = vol c.args.img.now in
    rows_none P v _ _ _ (λ j p. weigh v 1 (slot v c.args.t j) (hit p)) c.requires.0 c.requires.1.size

pub slot_at-b-requires : goal.slot_at-b-requires
unfolding Below
slot_at-b-requires c = (omega (arith, c.requires.2.0), omega arith)

pub meet_index-low-requires : goal.meet_index-low-requires
unfolding Below
meet_index-low-requires c = let P = pages c.args.img.now in let v = vol c.args.img.now in
    (record { size = c.loop-k.invariant.size; most = omega (arith, c.requires.0.most, c.loop-k.invariant.most) }, record { size = c.loop-k.invariant.index; few = c.requires.1.few; some = c.requires.1.some }, omega (arith, (c.requires.2.1 c.loop-k.k (omega arith)).0, c.slot_at-b.ensures.0))

pub loop-k-preserved : goal.loop-k-preserved
loop-k-preserved c = let P = pages c.args.img.now in let v = vol c.args.img.now in
    rows_more P v _ _ _ (λ j p. weigh v 1 (slot v c.args.t j) (hit p)) c.loop-k.k _ _ _ _ _ _ c.loop-k.invariant (index_same P v c.args.t c.loop-k.k c.slot_at-b.result _ _ _ _ _ _ c.slot_at-b.ensures.0 c.meet_index-low.ensures)

pub returns : goal.returns
returns c = let P = pages c.args.img.now in let v = vol c.args.img.now in
    rows_end P v _ _ _ (λ j p. weigh v 1 (slot v c.args.t j) (hit p)) c.loop-k.k 512 (omega arith) _ _ _ c.loop-k.invariant
