-- The bits of one word of the bit file, and of two. Assumes nothing.
use mathlib.Core.Path.{◌≡◌, sym, ap, ◌∙◌}
use Prim.Native.Nat.{ℕ, ◌+◌, ◌-◌, ◌*◌, ◌/◌, ◌%◌, ◌≤◌, ◌<◌, max}
use native.Mathlib.Decide.{dec_lt}
use native.Mathlib.Omega.{arith}
use Rattle.book.specs.Words.{Vol}
use Rattle.book.specs.Bits.{bit, digit}
use Rattle.book.specs.Written.{digit-le}
use Rattle.page.specs.Parts.{word_from}
use Rattle.bits.specs.File.{BitsAt}
use Rattle.bits.specs.Search.{BitsIn}
use Rattle.bits.proofs.Digits.{digit_low, digit-high}
use Rattle.bits.proofs.Places.{bit_in}
use Rattle.bits.proofs.Runs.{full-digit, full-pair}

-- a whole word below P, and the word that holds P
module _ (P : ℕ) (v : Vol) (b : ℕ) (f : BitsAt P v b) where
  pub word-whole : (i w : ℕ) → w ≡ word_from v b i → i * 16 + 16 ≤ P → BitsIn P v i 16 w
  word-whole i w e h = record {
    below = λ j l q. ap (digit j) e ∙ sym (bit_in P v b f i j l q);
    past = λ j l q. absurd (let r : ⊥ = omega arith in r);
  }

  pub word-last : (w : ℕ) → ((j : ℕ) → j < 16 → digit j w ≡ max (digit j (word_from v b (P / 16))) (1 - (P % 16 - j))) → BitsIn P v (P / 16) 16 w
  word-last w d = record {
    below = λ j l q. omega (arith, d j l, bit_in P v b f (P / 16) j l q);
    past = λ j l q. omega (arith, d j l, digit-le j (word_from v b (P / 16)));
  }

module _ (P : ℕ) (v : Vol) where
  pub word_none : (w : ℕ) → P % 16 ≡ 0 → w ≡ 65535 → BitsIn P v (P / 16) 16 w
  word_none w z e = record {
    below = λ j l q. absurd (let r : ⊥ = omega arith in r);
    past = λ j l q. ap (digit j) e ∙ full-digit j l;
  }

  -- no page below P
  pub pair-none : (i : ℕ) → P ≤ i * 16 → BitsIn P v i 32 4294967295
  pair-none i h = record {
    below = λ j l q. absurd (let r : ⊥ = omega arith in r);
    past = λ j l q. full-pair j l;
  }

  -- a free place is a free page below P
  pub free-place : (i m w : ℕ) → BitsIn P v i m w → (j : ℕ) → j < m → digit j w ≡ 0 → (i * 16 + j < P) × (bit P v (i * 16 + j) ≡ 0)
  free-place i m w B j l e = elim (dec_lt (i * 16 + j) P) [
    | yes h ↦ (h, sym (B.below j l h) ∙ e)
    | no h ↦ absurd (let r : ⊥ = omega (arith, B.past j l (omega arith)) in r)
  ]

  -- word i below the two words from the next on
  module _ (i k x w y : ℕ) (next : k ≡ i + 1) (B : BitsIn P v k 32 x) (W : BitsIn P v i 16 w) (small : w < 65536) (e : y ≡ x % 65536 * 65536 + w) where
    lower : (j : ℕ) → j < 16 → digit j y ≡ digit j w
    lower j l = sym (digit_low j 16 y l) ∙ ap (digit j) (let q : y % 65536 ≡ w = omega arith in q)

    upper : (j : ℕ) → j < 16 → digit (16 + j) y ≡ digit j x
    upper j l = digit-high j 16 y ∙ ap (digit j) (let q : y / 65536 ≡ x % 65536 = omega arith in q) ∙ digit_low j 16 x l

    pub pair-next : BitsIn P v i 32 y
    pair-next = record {
      below = λ j l q. elim (dec_lt j 16) [
        | yes a ↦ lower j a ∙ W.below j a q
        | no a ↦
            ap (λ (m : ℕ). digit m y) (let h : j ≡ 16 + (j - 16) = omega arith in h) ∙ upper (j - 16) (omega arith) ∙ B.below (j - 16) (omega arith) (omega arith)
            ∙ ap (bit P v) (let h : k * 16 + (j - 16) ≡ i * 16 + j = omega arith in h)
      ];
      past = λ j l q. elim (dec_lt j 16) [
        | yes a ↦ lower j a ∙ W.past j a q
        | no a ↦ ap (λ (m : ℕ). digit m y) (let h : j ≡ 16 + (j - 16) = omega arith in h) ∙ upper (j - 16) (omega arith) ∙ B.past (j - 16) (omega arith) (omega arith)
      ];
    }
