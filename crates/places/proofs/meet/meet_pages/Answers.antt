use Rattle.places.proofs.Steps.{turns-none, turns_more, turns-end, slot-met}
use Rattle.book.specs.Trees.{weigh}
use Rattle.book.specs.Pointers.{slot}
use Rattle.book.specs.Words.{vol}
use Rattle.book.specs.Holders.{hit}
use native.Mathlib.Omega.{arith}
use Rattle.places.proofs.meet.meet_pages.Goals as goal

pub loop-k-init : goal.loop-k-init
loop-k-init c = turns-none _ _ (λ j p. weigh (vol c.args.img.now) 0 (slot (vol c.args.img.now) c.args.t j) (hit p)) c.requires.0

pub loop-k-preserved : goal.loop-k-preserved
loop-k-preserved c = let v = vol c.args.img.now in
    turns_more _ _ (λ j p. weigh v 0 (slot v c.args.t j) (hit p)) c.loop-k.k _ _ _ _ c.loop-k.invariant (slot-met v c.args.t c.loop-k.k c.slot_at.result _ _ _ _ c.slot_at.ensures.0 c.meet-low.ensures)

pub returns : goal.returns
returns c = let v = vol c.args.img.now in
    turns-end _ _ (λ j p. weigh v 0 (slot v c.args.t j) (hit p)) c.loop-k.k 512 (omega arith) _ _ c.loop-k.invariant
