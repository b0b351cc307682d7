use Rattle.places.proofs.Steps.{turns-none, turns_more, turns-end, turns-past}
use Rattle.laws.specs.Tree.Slot.{hit_other}
use Rattle.book.specs.Holders.{hit}
use native.Mathlib.Omega.{arith}
use Prim.Native.Nat.{◌+◌}
use Rattle.places.proofs.meet.meet_run.Goals as goal

pub loop-i-init : goal.loop-i-init
loop-i-init c = turns-none _ _ (λ j p. hit p (c.args.start + j)) c.requires.0

pub returns-then-low-start : goal.returns-then-low-start
returns-then-low-start c = turns-past _ _ (λ j p. hit p (c.args.start + j)) c.loop-i.i _ (omega arith) _ _ c.requires.0.most c.loop-i.invariant (λ j p h l. hit_other p (c.args.start + j) (λ e. omega arith))

pub loop-i-preserved : goal.loop-i-preserved
loop-i-preserved c = turns_more _ _ (λ j p. hit p (c.args.start + j)) c.loop-i.i _ _ _ _ c.loop-i.invariant c.meet-low.ensures

pub returns : goal.returns
returns c = turns-end _ _ (λ j p. hit p (c.args.start + j)) c.loop-i.i _ (omega arith) _ _ c.loop-i.invariant
