-- `who::tell::system_holder` meets its contract. Assumes nothing.
use mathlib.Core.Path.{◌≡◌, refl, ap}
use Prim.Native.Nat.{ℕ}
use native.Mathlib.Omega.{arith}
use Rattle.who.specs.Turns.{holder_by}
use Rattle.who.proofs.tell.system_holder.Goals as goal

pub returns-in-0 : goal.returns-in-0
unfolding holder_by
returns-in-0 c e = rw c.in-0.is refl

pub returns-in-1 : goal.returns-in-1
unfolding holder_by
returns-in-1 c e = rw c.in-1.is refl

pub returns-in-2 : goal.returns-in-2
unfolding holder_by
returns-in-2 c e = rw c.in-2.is refl

pub returns-in-3 : goal.returns-in-3
unfolding holder_by
returns-in-3 c e = rw c.in-3.is refl

pub returns-in-4 : goal.returns-in-4
unfolding holder_by
returns-in-4 c e = rw c.in-4.is refl

pub returns-in-5 : goal.returns-in-5
unfolding holder_by
returns-in-5 c e = rw c.in-5.is refl

pub returns-in-6 : goal.returns-in-6
unfolding holder_by
returns-in-6 c e = rw c.in-6.is refl

pub returns-in_default : goal.returns-in_default
unfolding holder_by
returns-in_default c e = let q : 7 ≡ c.args.kind = omega arith in ap (λ (k : ℕ). holder_by k e c.args.position) q
