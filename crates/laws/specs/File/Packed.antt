-- What is written as a name reads back as it was given, whatever stands behind its end. Assumes nothing.
use Rattle.std.specs.Prelude.{◌≡◌, List, [], ◌∷◌, ◌++◌, ℕ, zero, suc, ◌+◌, ◌-◌, ◌*◌, ◌/◌, ◌%◌, ◌^◌, ◌≤◌, ◌<◌}
use Rattle.std.proofs.Common.{sym, ◌∙◌, inl, inr, get_or-append-add}
use Rattle.std.proofs.Math.Path.{ap, subst}
use Rattle.std.proofs.Math.Decide.{ℕ_discrete, dec_lt}
use native.Mathlib.Omega.{arith}
use Rattle.std.proofs.Math.ListN.{length, get_or, get_or-append, get_or-eq_default}
use Rattle.book.specs.Names.{Letter, Text, apostrophe, byte_at, words_of, packed_by, packed, ends, stored}
use Rattle.book.specs.Words.{Words}
use Rattle.laws.specs.File.Stored.{ends-zero, ends-apostrophe, ends-byte, letter-not, stored_is}

letter-small : (b : ℕ) → Letter b → b ≤ 90
unfolding Letter
letter-small b (inl h) = h.1
letter-small b (inr (inl h)) = omega (arith, h.1)
letter-small b (inr (inr h)) = omega (arith, h)

-- what may stand behind a name: bytes, of which the first ends it
pub record Behind (t : List ℕ) : Type 0 where
  pub ended : 0 < ends (get_or t 0 0)
  pub small : (i : ℕ) → get_or t i 0 < 256

pub behind-at : (s t : List ℕ) (i : ℕ) → length s ≤ i → get_or (s ++ t) i 0 ≡ get_or t (i - length s) 0
behind-at s t i h = let q : i ≡ length s + (i - length s) = omega arith in ap (λ (j : ℕ). get_or (s ++ t) j 0) q ∙ get_or-append-add s t (i - length s) 0

-- a field of n bytes that has the name s, and t behind it
module _ (m n : ℕ) (s : List ℕ) (T : Text m n s) (t : List ℕ) (B : Behind t) where
  both_small : (i : ℕ) → get_or (s ++ t) i 0 < 256
  unfolding Text
  both_small i = elim (dec_lt i (length s)) [
    | yes h ↦ omega (arith, letter-small (get_or s i 0) (T.2 i h), get_or-append s t 0 i h)
    | no h ↦ omega (arith, B.small (i - length s), behind-at s t i (omega arith))
  ]

  module _ (w : Words) (k : ℕ) (e : (i : ℕ) → i < n → w (k + i / 2) ≡ words_of (s ++ t) (i / 2)) where
    pub byte : (i : ℕ) → i < n → byte_at w k i ≡ get_or (s ++ t) i 0
    unfolding byte_at words_of
    byte i h = elim (ℕ_discrete (i % 2) 0) [
      | yes z ↦
          let q : 2 * (i / 2) ≡ i = omega arith in
          ap (λ (x : ℕ). w (k + i / 2) / 256 ^ (1 - x) % 256) z
          ∙ omega (arith, e i h, both_small (2 * (i / 2)), both_small (2 * (i / 2) + 1)) ∙ ap (λ (x : ℕ). get_or (s ++ t) x 0) q
      | no z ↦
          let q : 2 * (i / 2) + 1 ≡ i = omega arith in
          let o : i % 2 ≡ 1 = omega arith in
          ap (λ (x : ℕ). w (k + i / 2) / 256 ^ (1 - x) % 256) o
          ∙ omega (arith, e i h, both_small (2 * (i / 2)), both_small (2 * (i / 2) + 1)) ∙ ap (λ (x : ℕ). get_or (s ++ t) x 0) q
    ]

    pub reads-back : stored n w k ≡ s
    unfolding Text
    reads-back =
        stored_is n w k s T.1 (λ i h. letter-not (get_or s i 0) (T.2 i h)) (λ i h. byte i (omega (arith, T.1)) ∙ get_or-append s t 0 i h)
        (λ h. let z : length s - length s ≡ 0 = omega arith in
        subst (λ (b : ℕ). 0 < ends b) (sym (byte (length s) h ∙ behind-at s t (length s) (omega arith) ∙ ap (λ (j : ℕ). get_or t j 0) z)) B.ended)

    pub legal-back : Text m n (stored n w k)
    legal-back = subst (Text m n) (sym reads-back) T

-- ---- behind what is written now, and behind what was written zero-filled

-- one byte that ends a name
pub behind-one : (c : ℕ) → 0 < ends c → Behind (c ∷ [])
behind-one c h = record { ended = h; small = go }
  where
    go : (i : ℕ) → get_or (c ∷ []) i 0 < 256
    go zero = omega (arith, ends-byte c h)
    go (suc i) = omega (arith, get_or-eq_default {A = ℕ} [] 0 {n = i} (omega arith))

pub behind-now : Behind (apostrophe ∷ [])
behind-now = behind-one apostrophe ends-apostrophe

pub behind-old : Behind []
behind-old = record { ended = ends-zero; small = λ i. omega (arith, get_or-eq_default {A = ℕ} [] 0 {n = i} (omega arith)) }

module _ (m n : ℕ) (s : List ℕ) (T : Text m n s) (w : Words) (k : ℕ) (e : (i : ℕ) → i < n → w (k + i / 2) ≡ packed s (i / 2)) where
  pub packed-back : stored n w k ≡ s
  unfolding packed_by
  packed-back = reads-back m n s T (apostrophe ∷ []) behind-now w k e

  pub packed-legal : Text m n (stored n w k)
  packed-legal = subst (Text m n) (sym packed-back) T
