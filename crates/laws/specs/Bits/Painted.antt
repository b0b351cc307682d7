-- The bits of all pages below n are written: no other bit changes, and no word but those of bits that change. Assumes nothing.
use Rattle.std.specs.Prelude.{◌≡◌, ◌≢◌}
use Rattle.std.proofs.Math.Path.{refl}
use Rattle.std.proofs.Common.{sym, ap, ◌∙◌, subst, subst₂, not-suc-le-zero, arith}
use Prim.Native.Nat.{ℕ, zero, suc, ◌/◌, ◌%◌, ◌≤◌, ◌<◌}
use Rattle.std.proofs.Math.Decide.{ℕ_discrete}
use Rattle.book.specs.Bits.{bit_page, bit_word, bit_place, bit, digit, to_digit, mark, mark_all}
use Rattle.book.specs.Rules.{Rule1}
use Rattle.book.specs.Words.{Vol, word, put}
use Rattle.book.specs.Written.{digit-other, word-pos, put-here, put-page, put_word}
use Rattle.laws.specs.Bits.Claim.{bit_page-pos}
use Rattle.laws.specs.Bits.Mark.{mark-master, mark-bit, mark-other}
use Rattle.laws.specs.Frame.Places.{Places, WordsOf, Apart, OnlyAt, only-put}
use Rattle.laws.specs.Frame.Renewed.{master-words, rule1}
use Rattle.laws.specs.Frame.Roots.{Roots, bit_page-root}

-- ---- a bit that is written as it was

digit-idle : (j w : ℕ) → to_digit j w (digit j w) ≡ w
unfolding digit to_digit
digit-idle zero w = omega arith
digit-idle (suc j) w = omega (arith, digit-idle j (w / 2))

put-idle : (v : Vol) (q j x : ℕ) → x ≡ v q j → (p k : ℕ) → put v q j x p k ≡ v p k
put-idle v q j x e p k = elim (ℕ_discrete p q) [
  | no n ↦ put-page v q j x p k n
  | yes i ↦ elim (ℕ_discrete k j) [
    | no m ↦ put_word v q j x p k m
    | yes l ↦ subst₂ (λ (y z : ℕ). put v q j x y z ≡ v y z) (sym i) (sym l) (put-here v q j x ∙ e)
  ]
]

mark-idle : (P : ℕ) (v : Vol) → Rule1 P v → (d x : ℕ) → d < P → x ≡ bit P v d → (p k : ℕ) → mark P v d x p k ≡ v p k
unfolding mark bit
mark-idle P v r d x h e p k = put-idle v (bit_page P v d) (bit_word d) _ (ap (to_digit (d % 16) (word v (bit_page P v d) (bit_word d))) e
    ∙ digit-idle (d % 16) (word v (bit_page P v d) (bit_word d)) ∙ word-pos v (bit_page P v d) (bit_word d) (bit_page-pos P v r d h)) p k

-- ---- the bits of all pages below n

-- the words of the bits that change
abbrev pub Changed : ℕ → Vol → (ℕ → ℕ) → ℕ → Places
Changed P v f n q k = (p : ℕ) × (p < n) × (f p ≢ bit P v p) × WordsOf (bit_page P v p) (bit_word p) 1 q k

pub record Painted (P : ℕ) (v w : Vol) (f : ℕ → ℕ) (n : ℕ) : Type 0 where
  pub master : (k : ℕ) → w 0 k ≡ v 0 k
  pub words : OnlyAt (Changed P v f n) v w
  pub digits : (p k j : ℕ) → ((d : ℕ) → d < n → p ≡ bit_page P v d → k ≡ bit_word d → j ≡ bit_place d → ⊥) → digit j (w p k) ≡ digit j (v p k)
  pub low : (p : ℕ) → p < n → bit P w p ≡ f p
  pub high : (p : ℕ) → n ≤ p → p < P → bit P w p ≡ bit P v p

module _ (P : ℕ) (v : Vol) (r1 : Rule1 P v) (f : ℕ → ℕ) (small : (p : ℕ) → f p < 2) where
  painted-one : (w : Vol) (n : ℕ) → n < P → Painted P v w f n → Painted P v (mark P w n (f n)) f (suc n)
  unfolding Roots mark
  painted-one w n h M = record {
    master = λ k. mark-master P w r n (f n) h (small n) k ∙ M.master k;
    words = λ p k a. step p k a ∙ M.words p k (λ c. a (c.0, omega (arith, c.1), c.2, c.3));
    digits = λ p k j a. digits p k j (λ x y z. a n (omega arith) (x ∙ bit_page-root P v w R n) y z) ∙ M.digits p k j (λ d i. a d (omega arith));
    low = low;
    high = λ p i j. mark-other P w r n (f n) h (small n) p j (omega arith) ∙ M.high p (omega arith) j;
  }
    where
      R : Roots v w
      R k i j = M.master k

      r : Rule1 P w
      r = rule1 P v w (master-words v w (λ k i j. M.master k)) r1

      step : (p k : ℕ) → Apart (Changed P v f (suc n)) p k → mark P w n (f n) p k ≡ w p k
      step p k a = elim (ℕ_discrete (f n) (bit P v n)) [
        | yes e ↦ mark-idle P w r n (f n) h (e ∙ sym (M.high n (omega arith) h)) p k
        | no ne ↦ only-put w (bit_page P w n) (bit_word n) _ p k (λ c. a (n, omega arith, ne, (c.0 ∙ bit_page-root P v w R n, c.1, c.2)))
      ]

      digits : (p k j : ℕ) → (p ≡ bit_page P w n → k ≡ bit_word n → j ≡ bit_place n → ⊥) → digit j (mark P w n (f n) p k) ≡ digit j (w p k)
      digits p k j a = elim (ℕ_discrete p (bit_page P w n)) [
        | no e ↦ ap (digit j) (put-page w (bit_page P w n) (bit_word n) _ p k e)
        | yes e ↦ elim (ℕ_discrete k (bit_word n)) [
          | no i ↦ ap (digit j) (put_word w (bit_page P w n) (bit_word n) _ p k i)
          | yes i ↦ subst₂ (λ (y z : ℕ). digit j (mark P w n (f n) y z) ≡ digit j (w y z)) (sym e) (sym i)
              (ap (digit j) (put-here w (bit_page P w n) (bit_word n) _) ∙ digit-other j (bit_place n) _ (f n) (a e i) (small n)
              ∙ ap (digit j) (word-pos w (bit_page P w n) (bit_word n) (bit_page-pos P w r n h)))
        ]
      ]

      low : (p : ℕ) → p < suc n → bit P (mark P w n (f n)) p ≡ f p
      low p i = elim (ℕ_discrete p n) [
        | yes e ↦ subst (λ (y : ℕ). bit P (mark P w n (f n)) y ≡ f y) (sym e) (mark-bit P w r n (f n) h (small n))
        | no ne ↦ mark-other P w r n (f n) h (small n) p (omega arith) ne ∙ M.low p (omega arith)
      ]

  pub painted : (n : ℕ) → n ≤ P → Painted P v (mark_all P v f n) f n
  unfolding mark_all
  painted zero h = record { master = λ k. refl; words = λ p k a. refl; digits = λ p k j a. refl; low = λ p i. absurd (not-suc-le-zero i); high = λ p i j. refl }
  painted (suc n) h = painted-one (mark_all P v f n) n h (painted n (omega arith))
