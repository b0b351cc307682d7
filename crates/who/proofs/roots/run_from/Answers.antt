-- `who::roots::run_from` meets its contract. Assumes nothing.
use mathlib.Core.Logic.{inl, inr}
use Prim.Native.Nat.{ℕ, ◌+◌}
use native.Mathlib.Omega.{arith}
use Rattle.who.specs.Turns.{positions}
use Rattle.who.proofs.Leasts.{upto-at, upto-end}
use Rattle.who.proofs.roots.run_from.Goals as goal

pub returns-in_err-k : goal.returns-in_err-k
returns-in_err-k c = rw c.from_residual.ensures (upto-end (λ (i : ℕ). c.args.top + i) c.args.count c.args.p c.args.n positions c.requires.0 (λ i h l e. c.in_err-k.ensures (omega (arith, e))))

pub returns-then-k-count : goal.returns-then-k-count
returns-then-k-count c = upto-at (λ (i : ℕ). c.args.top + i) c.args.count c.args.p c.args.n positions c.requires.0 c.in_ok-k.k c.requires.2
    (record { from = c.if-n-k.true; to = c.if-k-count.true; none = λ i h l e. omega (arith, e, c.in_ok-k.ensures.1); here = omega (arith, c.in_ok-k.ensures.0, c.in_ok-k.ensures.1) })

pub returns : goal.returns
returns c = upto-end (λ (i : ℕ). c.args.top + i) c.args.count c.args.p c.args.n positions c.requires.0 (λ i h l e. elim c.else-n-k.either [
  | inl a ↦ omega (arith, e, a.1, c.in_ok-k.ensures.1)
  | inr b ↦ omega (arith, e, b, c.in_ok-k.ensures.1)
])
