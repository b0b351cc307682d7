-- What holds of each number of a span: the indices that a loop has passed. Assumes nothing.
use Rattle.std.proofs.Common.{sym}
use Rattle.std.proofs.Math.Path.{subst}
use Rattle.std.specs.Prelude.{ℕ, ◌+◌, ◌≤◌, ◌<◌}
use Rattle.std.proofs.Math.Decide.{dec_lt, ℕ_discrete}
use native.Mathlib.Omega.{arith}

-- Q holds from a on, below z
unfoldable pub Span : (ℕ → Type 0) → ℕ → ℕ → Type 0
Span Q a z = (x : ℕ) → a ≤ x → x < z → Q x

module _ (Q : ℕ → Type 0) where
  pub span_none : (a : ℕ) → Span Q a a
  unfolding Span
  span_none a x h l = absurd (let r : ⊥ = omega arith in r)

  pub span_more : (a z : ℕ) → Span Q a z → Q z → Span Q a (z + 1)
  unfolding Span
  span_more a z s q x h l = elim (ℕ_discrete x z) [
    | yes e ↦ subst Q (sym e) q
    | no n ↦ s x h (omega arith)
  ]

  pub span-join : (a m z : ℕ) → Span Q a m → Span Q m z → Span Q a z
  unfolding Span
  span-join a m z s t x h l = elim (dec_lt x m) [
    | yes e ↦ s x h e
    | no n ↦ t x (omega arith) l
  ]

  pub span-at : (a z : ℕ) → Span Q a z → (x : ℕ) → a ≤ x → x < z → Q x
  unfolding Span
  span-at a z s = s

  pub span-by : (a z : ℕ) → ((x : ℕ) → a ≤ x → x < z → Q x) → Span Q a z
  unfolding Span
  span-by a z s = s

  pub span-part : (a b y z : ℕ) → a ≤ b → y ≤ z → Span Q a z → Span Q b y
  unfolding Span
  span-part a b y z h l s x i j = s x (omega arith) (omega arith)
