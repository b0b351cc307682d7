-- Sums that are two or more, sums cut up, sums that are as great as they can be. Assumes nothing.
use Rattle.std.specs.Prelude.{◌≡◌, ◌≢◌, ℕ, zero, suc, ◌+◌, ◌*◌, ◌≤◌, ◌<◌}
use Rattle.std.proofs.Common.{le_refl, not-suc-le-zero, arith}
use Rattle.std.proofs.Math.Numerals.{unary_clauses}
use Rattle.std.proofs.Math.Decide.{dec_lt}
use Rattle.sums.specs.Sum.{sum, sum-find, sum-le-at}

-- a sum of two or more: two summands that are not 0, or one of two or more
pub data Twice (n : ℕ) (f : ℕ → ℕ) : Type 0 where
  apart : (i j : ℕ) → i < n → j < n → i ≢ j → 0 < f i → 0 < f j → Twice n f
  within : (i : ℕ) → i < n → 2 ≤ f i → Twice n f

pub sum-find₂ : (n : ℕ) (f : ℕ → ℕ) → 2 ≤ sum n f → Twice n f
unfolding sum
sum-find₂ zero f h = absurd (not-suc-le-zero h)
sum-find₂ (suc n) f h = elim (dec_lt 1 (f n)) [
  | yes p ↦ within n (le_refl (suc n)) p
  | no a ↦ elim (dec_lt 0 (f n)) [
    | yes p ↦ let r = sum-find n f (omega arith) in apart r.0 n (omega (arith, r.1)) (le_refl (suc n)) (omega (arith, r.1)) r.2 p
    | no b ↦ more (sum-find₂ n f (omega arith))
  ]
]
  where
    more : Twice n f → Twice (suc n) f
    more (apart i j hi hj ne pi pj) = apart i j (omega arith) (omega arith) ne pi pj
    more (within i hi p) = within i (omega arith) p

-- a sum in two parts, and a sum of n rows of m each
pub sum-cat : (m n : ℕ) (f : ℕ → ℕ) → sum (n + m) f ≡ sum n f + sum m (λ i. f (n + i))
unfolding sum
sum-cat zero n f = simp unary_clauses
sum-cat (suc m) n f = simp unary_clauses (omega (arith, sum-cat m n f))

pub sum_rows : (m n : ℕ) (f : ℕ → ℕ) → sum n (λ i. sum m (λ j. f (m * i + j))) ≡ sum (m * n) f
unfolding sum
sum_rows m zero f = simp unary_clauses
sum_rows m (suc n) f = simp unary_clauses (omega (arith, sum_rows m n f, sum-cat m (m * n) f))

-- equal sums of terms in order have equal terms
pub sum-tight : (n : ℕ) (f g : ℕ → ℕ) → ((i : ℕ) → i < n → f i ≤ g i) → sum n g ≤ sum n f → (i : ℕ) → i < n → g i ≤ f i
sum-tight n f g le eq i h = elim (dec_lt (f i) (g i)) [
  | yes l ↦ omega (arith, sum-le-at n f g i 1 h le (omega arith))
  | no l ↦ omega arith
]

-- ---- short sums, written out

pub sum-1 : (f : ℕ → ℕ) → sum 1 f ≡ f 0
unfolding sum
sum-1 f = omega arith

pub sum-2 : (f : ℕ → ℕ) → sum 2 f ≡ f 0 + f 1
unfolding sum
sum-2 f = omega arith

pub sum-3 : (f : ℕ → ℕ) → sum 3 f ≡ f 0 + f 1 + f 2
unfolding sum
sum-3 f = omega arith
