-- `who::tell::role` meets its contract. Assumes nothing.
use mathlib.Core.Path.{◌≡◌, refl, ap}
use Prim.Native.Nat.{ℕ}
use native.Mathlib.Omega.{arith}
use Rattle.who.specs.Turns.{file_role}
use Rattle.who.proofs.tell.role.Goals as goal

pub returns-in-0 : goal.returns-in-0
unfolding file_role
returns-in-0 c = rw c.in-0.is refl

pub returns-in-1 : goal.returns-in-1
unfolding file_role
returns-in-1 c = rw c.in-1.is refl

pub returns-in_default : goal.returns-in_default
unfolding file_role
returns-in_default c = let e : 2 ≡ c.args.class = omega arith in ap (λ (k : ℕ). file_role k c.args.position) e
