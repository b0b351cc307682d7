-- Bytes of stored names, and what makes a name legal. Assumes nothing.
use mathlib.Core.Path.{◌≡◌, sym, ap, ap₂, ◌∙◌, subst}
use mathlib.Core.Bool.{Bool, true, false}
use Prim.Native.Nat.{ℕ, ◌+◌, ◌-◌, ◌*◌, ◌/◌, ◌%◌, ◌^◌, ◌≤◌, ◌<◌}
use native.Mathlib.Nat.{div-one}
use native.Mathlib.Decide.{dec_lt}
use native.Mathlib.Omega.{arith}
use borrow.Author.Count.{below_more}
use Rattle.book.specs.Words.{Words}
use Rattle.book.specs.Names.{Letter, Text, byte_at, ends, end_of, stored}
use Rattle.book.specs.Decides.{Decides}
use Rattle.laws.specs.File.Stored.{letter-not, end-at, end_is, stored-length, stored_at}
use Rattle.page.specs.Parts.{Letters}

-- ---- the two bytes of a word

pub byte_high : (w : Words) (k i : ℕ) → byte_at w k (2 * i) ≡ w (k + i) / 256 % 256
unfolding byte_at
byte_high w k i =
    ap₂ (λ (x y : ℕ). w (k + x) / 256 ^ y % 256) (let e : 2 * i / 2 ≡ i = omega arith in e) (let e : 1 - 2 * i % 2 ≡ 1 = omega arith in e)

pub byte_low : (w : Words) (k i : ℕ) → byte_at w k (2 * i + 1) ≡ w (k + i) % 256
unfolding byte_at
byte_low w k i =
    ap₂ (λ (x y : ℕ). w (k + x) / 256 ^ y % 256) (let e : (2 * i + 1) / 2 ≡ i = omega arith in e) (let e : 1 - (2 * i + 1) % 2 ≡ 0 = omega arith in e)
    ∙ ap (λ (x : ℕ). x % 256) (div-one (w (k + i)))

pub byte-even : (w : Words) (k l : ℕ) → l % 2 ≡ 0 → byte_at w k l ≡ w (k + l / 2) / 256 % 256
byte-even w k l e = ap (byte_at w k) (let q : l ≡ 2 * (l / 2) = omega arith in q) ∙ byte_high w k (l / 2)

pub byte-odd : (w : Words) (k l : ℕ) → l % 2 ≡ 1 → byte_at w k l ≡ w (k + l / 2) % 256
byte-odd w k l e = ap (byte_at w k) (let q : l ≡ 2 * (l / 2) + 1 = omega arith in q) ∙ byte_low w k (l / 2)

-- what holds of all bytes of i words, and of both bytes of the next
pub word_more : (P : ℕ → Type 0) (i : ℕ) → ((j : ℕ) → j < 2 * i → P j) → P (2 * i) → P (2 * i + 1) → (j : ℕ) → j < 2 * (i + 1) → P j
word_more P i h a b j l = below_more P (2 * i + 1) (below_more P (2 * i) h a) b j (omega arith)

-- ---- legal: letters up to the end

module _ (m n : ℕ) (w : Words) (k l : ℕ) (s : Letters n w k l) where
  -- a legal name ends where the letters at the front do
  legal-end : Text m n (stored n w k) → end_of n w k ≡ l
  unfolding Text
  legal-end T = elim (dec_lt e l) [
    | yes h ↦ absurd (let r : ⊥ = omega (arith, (end_is n w k).there (omega (arith, s.most)), letter-not (byte_at w k e) (s.before e h)) in r)
    | no h ↦ elim (dec_lt l e) [
      | yes g ↦ absurd (s.stops (omega (arith, (end_is n w k).most)) (subst Letter (stored_at n w k l g) (T.2 l (omega (arith, stored-length n w k)))))
      | no g ↦ omega arith
    ]
  ]
    where
      e : ℕ
      e = end_of n w k

  pub legal-few : l < m → Text m n (stored n w k) → ⊥
  unfolding Text
  legal-few h T = omega (arith, T.0, stored-length n w k, legal-end T)

  legal-here : end_of n w k ≡ l → m ≤ l → Text m n (stored n w k)
  unfolding Text
  legal-here e h = (
    omega (arith, stored-length n w k),
    omega (arith, stored-length n w k, s.most),
    λ i j. subst Letter (sym (stored_at n w k i (omega (arith, stored-length n w k)))) (s.before i (omega (arith, stored-length n w k))),
  )

  pub legal-all : n ≤ l → m ≤ l → Text m n (stored n w k)
  legal-all g h = legal-here (end-at n w k l s.most (λ i j. letter-not (byte_at w k i) (s.before i j)) (λ j. absurd (let r : ⊥ = omega arith in r))) h

  -- a test of the byte behind the letters decides
  pub legal-by : (b : Bool) → l < n → m ≤ l → Decides b (0 < ends (byte_at w k l)) → Decides b (Text m n (stored n w k))
  legal-by true g h d = legal-here (end-at n w k l s.most (λ i j. letter-not (byte_at w k i) (s.before i j)) (λ j. d)) h
  legal-by false g h d = λ T. d (subst (λ (i : ℕ). 0 < ends (byte_at w k i)) (legal-end T) ((end_is n w k).there (omega (arith, legal-end T))))
