-- Names compared word by word, up to their end. Assumes nothing.
use mathlib.Core.Path.{◌≡◌, refl, sym, ap, ◌∙◌, subst}
use mathlib.Core.Bool.{Bool, true, false}
use mathlib.Core.Logic.{inl, inr}
use mathlib.Core.List.{List}
use Prim.Native.Nat.{ℕ, ◌+◌, ◌*◌, ◌/◌, ◌%◌, ◌≤◌, ◌<◌}
use native.Mathlib.Nat.{eq-zero-or-pos}
use native.Mathlib.Decide.{dec_lt}
use native.Mathlib.Omega.{arith}
use lib.ListN.{get_or, get_or-eq_default}
use lib.Seq.{ext_get_or}
use Rattle.sums.specs.Sum.{is_same}
use Rattle.sums.specs.Search.{pick_yes, pick_no}
use Rattle.book.specs.Words.{Words}
use Rattle.book.specs.Names.{byte_at, ends, end_of, words_of, stored}
use Rattle.book.specs.Decides.{Decides}
use Rattle.laws.specs.File.Stored.{end_is, stored-length, stored_at}
use Rattle.page.specs.Cut.{cut_word, Alike}
use Rattle.page.proofs.Deciding.{never}
use Rattle.page.proofs.Stored.{byte_high, byte_low, word_more}

-- a byte that ends no name is not zero
ends-pos : (b : ℕ) → ends b ≡ 0 → 0 < b
unfolding ends
ends-pos b h = elim (eq-zero-or-pos b) [
  | inl z ↦ absurd (let r : ⊥ = omega (arith, ap ends z, is_same 0) in r)
  | inr p ↦ p
]

-- ---- one word, by its high byte h and its low byte l

module _ (w h : ℕ) (a : h ≡ w / 256) where
  pub cut-first : 0 < ends h → 0 ≡ cut_word w
  unfolding cut_word
  cut-first e = sym (pick_yes (ends (w / 256)) 0 _ (omega (arith, e, ap ends a)))

  module _ (l : ℕ) (b : l ≡ w % 256) (go : 0 < ends h → ⊥) where
    high_goes : ends (w / 256) ≡ 0
    high_goes = let z : ends h ≡ 0 = omega arith in sym (ap ends a) ∙ z

    pub cut-second : 0 < ends l → w / 256 * 256 ≡ cut_word w
    unfolding cut_word
    cut-second e = sym (pick_no (ends (w / 256)) 0 _ high_goes ∙ pick_yes (ends (w % 256)) _ _ (omega (arith, e, ap ends b)))

    pub cut-whole : (0 < ends l → ⊥) → w ≡ cut_word w
    unfolding cut_word
    cut-whole e = let z : ends l ≡ 0 = omega arith in sym (pick_no (ends (w / 256)) 0 _ high_goes ∙ pick_no (ends (w % 256)) _ _ (sym (ap ends b) ∙ z))

    -- a test of the low byte tells whether the name ends in the word
    pub ends_by : (r : Bool) → Decides r (0 < ends l) → Decides r (cut_word w % 256 ≡ 0) × (r ≡ false → cut_word w ≡ w)
    ends_by true d = (omega (arith, cut-second d), λ e. never (sym e))
    ends_by false d = (λ z. let n : ends l ≡ 0 = omega arith in omega (arith, cut-whole d, ends-pos l n), λ e. sym (cut-whole d))

-- ---- a name in the n bytes of the words from k on

module _ (n : ℕ) (even : n % 2 ≡ 0) (w : Words) (k : ℕ) where
  abbrev s : List ℕ
  s = stored n w k

  abbrev L : ℕ
  L = end_of n w k

  past : (i : ℕ) → L ≤ i → get_or s i 0 ≡ 0
  past i h = get_or-eq_default s 0 (omega (arith, stored-length n w k))

  -- its bytes are none of them zero
  pub byte_pos : (i : ℕ) → i < L → 0 < get_or s i 0
  byte_pos i h = omega (arith, stored_at n w k i h, ends-pos (byte_at w k i) ((end_is n w k).passed i h))

  pub byte_small : (i : ℕ) → get_or s i 0 < 256
  unfolding byte_at
  byte_small i = elim (dec_lt i L) [
    | yes h ↦ omega (arith, stored_at n w k i h)
    | no h ↦ omega (arith, past i (omega arith))
  ]

  -- ---- word i, before which the name does not end

  module _ (i : ℕ) (go : 2 * i ≤ L) (in_field : 2 * i < n) (word : w (k + i) < 65536) where
    high_end : (x : ℕ) → ends (byte_at w k (2 * i)) ≡ x → ends (w (k + i) / 256) ≡ x
    high_end x e = ap ends (let q : w (k + i) / 256 ≡ byte_at w k (2 * i) = omega (arith, byte_high w k i) in q) ∙ e

    low_end : (x : ℕ) → ends (byte_at w k (2 * i + 1)) ≡ x → ends (w (k + i) % 256) ≡ x
    low_end x e = ap ends (sym (byte_low w k i)) ∙ e

    pub cut-is : cut_word (w (k + i)) ≡ words_of s i
    unfolding cut_word words_of
    cut-is = elim (dec_lt (2 * i) L) [
      | no h ↦
          let p : 0 < ends (byte_at w k (2 * i)) = subst-end (omega arith) ((end_is n w k).there (omega arith)) in
          pick_yes (ends (w (k + i) / 256)) 0 _ (omega (arith, high_end _ refl)) ∙ omega (arith, past (2 * i) (omega arith), past (2 * i + 1) (omega arith))
      | yes h ↦ pick_no (ends (w (k + i) / 256)) 0 _ (high_end 0 ((end_is n w k).passed (2 * i) h)) ∙ elim (dec_lt (2 * i + 1) L) [
        | no g ↦
            let p : 0 < ends (byte_at w k (2 * i + 1)) = subst-end (omega arith) ((end_is n w k).there (omega arith)) in
            pick_yes (ends (w (k + i) % 256)) _ _ (omega (arith, low_end _ refl))
            ∙ omega (arith, stored_at n w k (2 * i) h, byte_high w k i, past (2 * i + 1) (omega arith))
        | yes g ↦
            pick_no (ends (w (k + i) % 256)) _ _ (low_end 0 ((end_is n w k).passed (2 * i + 1) g))
            ∙ omega (arith, stored_at n w k (2 * i) h, byte_high w k i, stored_at n w k (2 * i + 1) g, byte_low w k i)
      ]
    ]
      where
        subst-end : {x : ℕ} → L ≡ x → 0 < ends (byte_at w k L) → 0 < ends (byte_at w k x)
        subst-end {x} e = subst (λ (j : ℕ). 0 < ends (byte_at w k j)) e

  -- a word of which both bytes are the name's
  pub word-whole : (i : ℕ) → 2 * (i + 1) ≤ L → w (k + i) < 65536 → words_of s i ≡ w (k + i)
  unfolding words_of
  word-whole i h l = omega (arith, stored_at n w k (2 * i) (omega arith), byte_high w k i, stored_at n w k (2 * i + 1) (omega arith), byte_low w k i)

  -- ---- what a word of it tells

  pub low-ended : (i : ℕ) → words_of s i % 256 ≡ 0 → L ≤ 2 * i + 1
  unfolding words_of
  low-ended i z = elim (dec_lt (2 * i + 1) L) [
    | yes h ↦ absurd (let r : ⊥ = omega (arith, byte_pos (2 * i + 1) h, byte_small (2 * i + 1)) in r)
    | no h ↦ omega arith
  ]

  pub low_goes : (i : ℕ) → (words_of s i % 256 ≡ 0 → ⊥) → 2 * (i + 1) ≤ L
  unfolding words_of
  low_goes i z = elim (dec_lt (2 * i + 1) L) [
    | yes h ↦ omega arith
    | no h ↦ absurd (z (omega (arith, past (2 * i + 1) (omega arith))))
  ]

  pub word-ended : (i : ℕ) → words_of s i ≡ 0 → L ≤ 2 * i
  unfolding words_of
  word-ended i z = elim (dec_lt (2 * i) L) [
    | yes h ↦ absurd (let r : ⊥ = omega (arith, byte_pos (2 * i) h) in r)
    | no h ↦ omega arith
  ]

  pub word-goes : (i : ℕ) → (words_of s i ≡ 0 → ⊥) → 2 * i < L
  unfolding words_of
  word-goes i z = elim (dec_lt (2 * i) L) [
    | yes h ↦ h
    | no h ↦ absurd (z (omega (arith, past (2 * i) (omega arith), past (2 * i + 1) (omega arith))))
  ]

-- ---- two names, word by word

module _ (n : ℕ) (even : n % 2 ≡ 0) (w : Words) (k : ℕ) (x : Words) (j : ℕ) where
  one : end_of n w k ≡ end_of n x j → ((b : ℕ) → b < end_of n w k → get_or (stored n w k) b 0 ≡ get_or (stored n x j) b 0) → stored n w k ≡ stored n x j
  one e f = ext_get_or 0 (stored n w k) (stored n x j) (stored-length n w k ∙ e ∙ sym (stored-length n x j)) (λ b h. f b (omega (arith, stored-length n w k)))

  module _ (i : ℕ) (a : Alike n w k x j i) where
    -- all words passed
    pub alike_all : n ≤ 2 * i → stored n w k ≡ stored n x j
    alike_all h =
        let p = (end_is n w k).most in let q = (end_is n x j).most in
        one (omega (arith, a.first, a.second, p, q)) (λ b l. a.same b (omega (arith, a.first, p)))

    module _ (e : words_of (stored n w k) i ≡ words_of (stored n x j) i) where
      both : (get_or (stored n w k) (2 * i) 0 ≡ get_or (stored n x j) (2 * i) 0) × (get_or (stored n w k) (2 * i + 1) 0 ≡ get_or (stored n x j) (2 * i + 1) 0)
      unfolding words_of
      both =
          let f : get_or (stored n w k) (2 * i) 0 * 256 + get_or (stored n w k) (2 * i + 1) 0 ≡ get_or (stored n x j) (2 * i) 0 * 256 + get_or (stored n x j) (2 * i + 1) 0 = e in
          (omega (arith, f, byte_small n even w k (2 * i + 1), byte_small n even x j (2 * i + 1)), omega (arith, f, byte_small n even w k (2 * i + 1), byte_small n even x j (2 * i + 1)))

      pub alike-more : (words_of (stored n w k) i % 256 ≡ 0 → ⊥) → Alike n w k x j (i + 1)
      alike-more z = record {
        first = low_goes n even w k i z;
        second = low_goes n even x j i (λ y. z (ap (λ (b : ℕ). b % 256) e ∙ y));
        same = word_more (λ b. get_or (stored n w k) b 0 ≡ get_or (stored n x j) b 0) i a.same both.0 both.1;
      }

      -- the word in which both end
      pub alike_end : words_of (stored n w k) i % 256 ≡ 0 → stored n w k ≡ stored n x j
      alike_end z = one ends_same here
        where
          l : end_of n w k ≤ 2 * i + 1
          l = low-ended n even w k i z

          m : end_of n x j ≤ 2 * i + 1
          m = low-ended n even x j i (ap (λ (b : ℕ). b % 256) (sym e) ∙ z)

          ends_same : end_of n w k ≡ end_of n x j
          ends_same = elim (dec_lt (2 * i) (end_of n w k)) [
            | yes p ↦ elim (dec_lt (2 * i) (end_of n x j)) [
              | yes q ↦ omega (arith, l, m)
              | no q ↦ absurd (let r : ⊥ = omega (arith, byte_pos n even w k (2 * i) p, both.0, past n even x j (2 * i) (omega arith)) in r)
            ]
            | no p ↦ elim (dec_lt (2 * i) (end_of n x j)) [
              | yes q ↦ absurd (let r : ⊥ = omega (arith, byte_pos n even x j (2 * i) q, both.0, past n even w k (2 * i) (omega arith)) in r)
              | no q ↦ omega (arith, a.first, a.second)
            ]
          ]

          here : (b : ℕ) → b < end_of n w k → get_or (stored n w k) b 0 ≡ get_or (stored n x j) b 0
          here b h = elim (dec_lt b (2 * i)) [
            | yes q ↦ a.same b q
            | no q ↦ let c : b ≡ 2 * i = omega (arith, l) in ap (λ (y : ℕ). get_or (stored n w k) y 0) c ∙ both.0 ∙ ap (λ (y : ℕ). get_or (stored n x j) y 0) (sym c)
          ]
