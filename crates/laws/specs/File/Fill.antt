-- What stands behind a name: a field written anew with another fill reads as before, has that fill, and going back gives its words. Assumes nothing.
use Rattle.std.specs.Prelude.{◌≡◌, ◌≢◌, length}
use Rattle.std.proofs.Math.Path.{sym, ap, ap₂}
use Rattle.std.proofs.Common.{◌∙◌}
use mathlib.Core.List.{List, [], ◌∷◌, ◌++◌}
use Prim.Native.Nat.{ℕ, ◌+◌, ◌-◌, ◌*◌, ◌/◌, ◌%◌, ◌^◌, ◌≤◌, ◌<◌}
use Rattle.std.proofs.Math.Decide.{dec_lt}
use native.Mathlib.Omega.{arith}
use Rattle.std.proofs.Math.ListN.{get_or, get_or-append}
use Rattle.book.specs.Words.{Words}
use Rattle.book.specs.Written.{set_words-in, set_words-low, set_words-high}
use Rattle.book.specs.Names.{Text, byte_at, words_of, packed_by, ends, end_of, stored}
use Rattle.book.specs.Convert.{Filled, refilled}
use Rattle.laws.specs.File.Stored.{end_is, stored-length, stored_at, stored-words}
use Rattle.laws.specs.File.Packed.{behind-at, byte, reads-back, behind-one}

-- fields of the same words have the same fill
pub filled-words : (c n : ℕ) (w x : Words) (k j : ℕ) → ((i : ℕ) → i < n → w (k + i / 2) ≡ x (j + i / 2)) → Filled c n x j → Filled c n w k
unfolding Filled byte_at
filled-words c n w x k j e F i h l =
    let q : end_of n w k ≡ end_of n x j = sym (stored-length n w k) ∙ ap length (stored-words n w x k j e) ∙ stored-length n x j in
    ap (λ (b : ℕ). b / 256 ^ (1 - i % 2) % 256) (e i l) ∙ F i (omega (arith, q, h)) l ∙ ap (λ (m : ℕ). get_or (c ∷ []) (i - m) 0) (sym q)

-- ---- a field written anew

-- a field that has the name s with c behind it
pub packed-filled : (c m n : ℕ) → 0 < ends c → (s : List ℕ) → Text m n s → (w : Words) (k : ℕ) → ((i : ℕ) → i < n → w (k + i / 2) ≡ packed_by c s (i / 2)) → Filled c n w k
unfolding Filled packed_by
packed-filled c m n mark s T w k e i h l =
    let q : end_of n w k ≡ length s = sym (stored-length n w k) ∙ ap length (reads-back m n s T (c ∷ []) (behind-one c mark) w k e) in
    byte m n s T (c ∷ []) (behind-one c mark) w k e i l ∙ behind-at s (c ∷ []) i (omega (arith, q, h)) ∙ ap (λ (j : ℕ). get_or (c ∷ []) (i - j) 0) (sym q)

pub refilled-in : (c n : ℕ) (w : Words) (k i : ℕ) → i < n / 2 → refilled c n w k (k + i) ≡ packed_by c (stored n w k) i
unfolding refilled
refilled-in c n w k i h =
    set_words-in w k (n / 2) (packed_by c (stored n w k)) (k + i) (omega arith) (omega arith) ∙ ap (packed_by c (stored n w k)) (let e : k + i - k ≡ i = omega arith in e)

module _ (c m n : ℕ) (mark : 0 < ends c) (even : n % 2 ≡ 0) (w : Words) (k : ℕ) (T : Text m n (stored n w k)) where
  written : (i : ℕ) → i < n → refilled c n w k (k + i / 2) ≡ packed_by c (stored n w k) (i / 2)
  written i h = refilled-in c n w k (i / 2) (omega arith)

  -- it reads as before
  pub refilled-stored : stored n (refilled c n w k) k ≡ stored n w k
  unfolding packed_by
  refilled-stored = reads-back m n (stored n w k) T (c ∷ []) (behind-one c mark) (refilled c n w k) k written

  -- and has that fill
  pub refilled-filled : Filled c n (refilled c n w k) k
  refilled-filled = packed-filled c m n mark (stored n w k) T (refilled c n w k) k written

-- the words beside it stay
pub refilled-low : (c n : ℕ) (w : Words) (k j : ℕ) → j < k → refilled c n w k j ≡ w j
unfolding refilled
refilled-low c n w k j h = set_words-low w k (n / 2) (packed_by c (stored n w k)) j h

pub refilled-high : (c n : ℕ) (w : Words) (k j : ℕ) → k + n / 2 ≤ j → refilled c n w k j ≡ w j
unfolding refilled
refilled-high c n w k j h = set_words-high w k (n / 2) (packed_by c (stored n w k)) j h

-- ---- back

-- a word is its two bytes
pub word_bytes : (w : Words) (k i : ℕ) → w (k + i) < 65536 → w (k + i) ≡ byte_at w k (2 * i) * 256 + byte_at w k (2 * i + 1)
unfolding byte_at
word_bytes w k i h =
    let a : 2 * i / 2 ≡ i = omega arith in let b : (2 * i + 1) / 2 ≡ i = omega arith in
    let p : 2 * i % 2 ≡ 0 = omega arith in let q : (2 * i + 1) % 2 ≡ 1 = omega arith in
    let hi : w (k + 2 * i / 2) / 256 ^ (1 - 2 * i % 2) % 256 ≡ w (k + i) / 256 % 256 = ap₂ (λ (j r : ℕ). w (k + j) / 256 ^ (1 - r) % 256) a p in
    let lo : w (k + (2 * i + 1) / 2) / 256 ^ (1 - (2 * i + 1) % 2) % 256 ≡ w (k + i) % 256 = ap₂ (λ (j r : ℕ). w (k + j) / 256 ^ (1 - r) % 256) b q ∙ omega arith in
    omega (arith, hi, lo, h)

-- the words of a field that has the fill c are its name's with c behind it
module _ (c n : ℕ) (even : n % 2 ≡ 0) (w : Words) (k : ℕ) (F : Filled c n w k) where
  own-byte : (i : ℕ) → i < n → byte_at w k i ≡ get_or (stored n w k ++ (c ∷ [])) i 0
  unfolding Filled
  own-byte i h =
      let s : List ℕ = stored n w k in let l = stored-length n w k in
      elim (dec_lt i (end_of n w k)) [
        | yes a ↦ sym (stored_at n w k i a) ∙ sym (get_or-append s (c ∷ []) 0 i (omega (arith, l, a)))
        | no a ↦
            let b : end_of n w k ≤ i = omega arith in
            F i b h ∙ ap (λ (j : ℕ). get_or (c ∷ []) (i - j) 0) (sym l) ∙ sym (behind-at s (c ∷ []) i (omega (arith, l, b)))
      ]

  pub own-words : (i : ℕ) → i < n / 2 → w (k + i) < 65536 → w (k + i) ≡ packed_by c (stored n w k) i
  unfolding packed_by words_of
  own-words i h s = word_bytes w k i s ∙ ap₂ (λ (a b : ℕ). a * 256 + b) (own-byte (2 * i) (omega arith)) (own-byte (2 * i + 1) (omega arith))

-- any field that stores that name has those words when it is written with c behind it
pub refilled-restores : (c n : ℕ) → n % 2 ≡ 0 → (w x : Words) (k : ℕ) → Filled c n w k → ((i : ℕ) → i < n / 2 → w (k + i) < 65536) → stored n x k ≡ stored n w k
    → (i : ℕ) → i < n / 2 → refilled c n x k (k + i) ≡ w (k + i)
refilled-restores c n even w x k F small e i h = refilled-in c n x k i h ∙ ap (λ (s : List ℕ). packed_by c s i) e ∙ sym (own-words c n even w k F i h (small i h))

-- a name with two fills has none: it is full
pub two-fills : (c d n : ℕ) (w : Words) (k : ℕ) → c ≢ d → Filled c n w k → Filled d n w k → end_of n w k ≡ n
unfolding Filled
two-fills c d n w k ne F G = elim (dec_lt (end_of n w k) n) [
  | yes h ↦ absurd (ne (sym (first c) ∙ sym (F (end_of n w k) (omega arith) h) ∙ G (end_of n w k) (omega arith) h ∙ first d))
  | no h ↦ omega (arith, (end_is n w k).most)
]
  where
    first : (b : ℕ) → get_or (b ∷ []) (end_of n w k - end_of n w k) 0 ≡ b
    first b = let z : end_of n w k - end_of n w k ≡ 0 = omega arith in ap (λ (i : ℕ). get_or (b ∷ []) i 0) z

-- and a full one has any
pub full-filled : (c n : ℕ) (w : Words) (k : ℕ) → end_of n w k ≡ n → Filled c n w k
unfolding Filled
full-filled c n w k e i h l = absurd (let z : ⊥ = omega arith in z)
