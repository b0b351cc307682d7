-- `who::roots::top_from` meets its contract. Assumes nothing.
use mathlib.Core.Logic.{inl, inr}
use Prim.Native.Nat.{ℕ}
use native.Mathlib.Omega.{arith}
use Rattle.who.specs.Turns.{positions}
use Rattle.who.proofs.Leasts.{upto-at, upto-end}
use Rattle.who.proofs.roots.top_from.Goals as goal

pub returns-then-top-p : goal.returns-then-top-p
returns-then-top-p c = upto-at (λ (i : ℕ). c.args.top) 1 c.args.p c.args.n positions c.requires.0 0 (omega arith) (record { from = omega arith; to = omega arith; none = λ i h l e. omega arith; here = c.if-top-p.true })

pub returns : goal.returns
returns c = upto-end (λ (i : ℕ). c.args.top) 1 c.args.p c.args.n positions c.requires.0 (λ i h l e. elim c.else-n-eq0.either [
  | inl a ↦ a.1 e
  | inr b ↦ omega (arith, b)
])
