-- A stored name: where it ends, and the bytes before. Assumes nothing.
use Rattle.std.specs.Prelude.{◌≡◌, length, get_or}
use Rattle.std.proofs.Math.Path.{refl, sym, ap}
use Rattle.std.proofs.Common.{ap₂, ◌∙◌, subst, inl, inr, not-suc-le-zero, add-one, arith, ext_get_or}
use mathlib.Core.List.{List, [], ◌∷◌, ◌++◌}
use Prim.Native.Nat.{ℕ, zero, suc, ◌+◌, ◌-◌, ◌/◌, ◌%◌, ◌^◌, ◌≤◌, ◌<◌}
use Rattle.std.proofs.Math.Decide.{ℕ_discrete, dec_lt}
use Rattle.std.proofs.Math.ListN.{length-append, get_or-append}
use Rattle.std.proofs.Math.Seq.{get_or_at}
use Rattle.sums.specs.Sum.{is_same, is-other}
use Rattle.sums.specs.Search.{Lowest, lowest-at, lowest-none, lowest-is}
use Rattle.book.specs.Words.{Words}
use Rattle.book.specs.Names.{Letter, Text, apostrophe, byte_at, bytes, ends, end_of, stored}

-- ---- the first bytes of a field

module _ (w : Words) (k : ℕ) where
  pub bytes-none : [] ≡ bytes w k 0
  unfolding bytes
  bytes-none = refl

  pub bytes-more : (l : ℕ) → bytes w k l ++ (byte_at w k l ∷ []) ≡ bytes w k (l + 1)
  unfolding bytes
  bytes-more l = ap (bytes w k) (sym (add-one l))

  pub bytes-length : (l : ℕ) → length (bytes w k l) ≡ l
  unfolding bytes
  bytes-length zero = refl
  bytes-length (suc l) = omega (arith, length-append (bytes w k l) (byte_at w k l ∷ []), bytes-length l)

  pub bytes-at : (l i : ℕ) → i < l → get_or (bytes w k l) i 0 ≡ byte_at w k i
  unfolding bytes
  bytes-at zero i h = absurd (not-suc-le-zero h)
  bytes-at (suc l) i h = elim (ℕ_discrete i l) [
    | yes e ↦ get_or_at (bytes w k l) (byte_at w k l) [] 0 i (bytes-length l ∙ sym e) ∙ ap (byte_at w k) (sym e)
    | no n ↦ get_or-append (bytes w k l) (byte_at w k l ∷ []) 0 i (omega (arith, bytes-length l)) ∙ bytes-at l i (omega arith)
  ]

bytes_same : (w x : Words) (k j l : ℕ) → ((i : ℕ) → i < l → byte_at w k i ≡ byte_at x j i) → bytes w k l ≡ bytes x j l
unfolding bytes
bytes_same w x k j zero e = refl
bytes_same w x k j (suc l) e = ap₂ (λ (s : List ℕ) (b : ℕ). s ++ (b ∷ [])) (bytes_same w x k j l (λ i h. e i (omega arith))) (e l (omega arith))

-- ---- which bytes end a name

pub ends-not : (b : ℕ) → (b ≡ 39 → ⊥) → (b ≡ 0 → ⊥) → ends b ≡ 0
unfolding ends
ends-not b p q = omega (arith, is-other b 39 p, is-other b 0 q)

pub ends-zero : 0 < ends 0
unfolding ends
ends-zero = omega (arith, is_same 0)

pub ends-apostrophe : 0 < ends apostrophe
unfolding ends
ends-apostrophe = omega (arith, is_same apostrophe)

pub ends-byte : (b : ℕ) → 0 < ends b → b ≤ 39
ends-byte b h = elim (dec_lt 39 b) [
  | yes l ↦ absurd (let z : ⊥ = omega (arith, h, ends-not b (λ e. omega arith) (λ e. omega arith)) in z)
  | no l ↦ omega arith
]

pub letter-not : (b : ℕ) → Letter b → ends b ≡ 0
unfolding Letter
letter-not b (inl h) = ends-not b (λ e. omega (arith, h.0)) (λ e. omega (arith, h.0))
letter-not b (inr (inl h)) = ends-not b (λ e. omega (arith, h.0)) (λ e. omega (arith, h.0))
letter-not b (inr (inr h)) = ends-not b (λ e. omega (arith, h)) (λ e. omega (arith, h))

-- ---- where it ends

module _ (n : ℕ) (w : Words) (k : ℕ) where
  pub end-at : (l : ℕ) → l ≤ n → ((i : ℕ) → i < l → ends (byte_at w k i) ≡ 0) → (l < n → 0 < ends (byte_at w k l)) → end_of n w k ≡ l
  end-at l h none there = elim (dec_lt l n) [
    | yes m ↦ lowest-at (λ i. ends (byte_at w k i)) n l m (there m) none
    | no m ↦ let e : n ≡ l = omega arith in lowest-none (λ i. ends (byte_at w k i)) n (λ i j. none i (omega arith)) ∙ e
  ]

  -- what is there, and what was passed
  pub end_is : Lowest (λ i. ends (byte_at w k i)) n
  end_is = lowest-is (λ i. ends (byte_at w k i)) n

  -- as long as that
  pub stored-length : length (stored n w k) ≡ end_of n w k
  unfolding stored
  stored-length = bytes-length w k (end_of n w k)

  pub stored_at : (i : ℕ) → i < end_of n w k → get_or (stored n w k) i 0 ≡ byte_at w k i
  unfolding stored
  stored_at = bytes-at w k (end_of n w k)

  pub stored-to : (l : ℕ) → end_of n w k ≡ l → stored n w k ≡ bytes w k l
  unfolding stored
  stored-to l e = ap (bytes w k) e

  -- a field whose first bytes are s and whose next, if there is one, ends a name
  pub stored_is : (s : List ℕ) → length s ≤ n → ((i : ℕ) → i < length s → ends (get_or s i 0) ≡ 0) → ((i : ℕ) → i < length s → byte_at w k i ≡ get_or s i 0)
      → (length s < n → 0 < ends (byte_at w k (length s))) → stored n w k ≡ s
  stored_is s h none same there =
      stored-to (length s) (end-at (length s) h (λ i j. ap ends (same i j) ∙ none i j) there)
      ∙ ext_get_or 0 (bytes w k (length s)) s (bytes-length w k (length s)) (λ i j. bytes-at w k (length s) i (omega (arith, bytes-length w k (length s))) ∙ same i (omega (arith, bytes-length w k (length s))))

  -- where the first byte ends a name, it is empty
  pub nameless : (m : ℕ) → 0 < ends (byte_at w k 0) → Text (suc m) n (stored n w k) → ⊥
  unfolding Text
  nameless m h T = let e : end_of n w k ≡ 0 = end-at 0 (omega arith) (λ i j. absurd (not-suc-le-zero j)) (λ j. h) in omega (arith, T.0, stored-length, e)

-- ---- equality looks at no byte behind the end

pub stored-front : (n : ℕ) (w x : Words) (k j : ℕ) → ((i : ℕ) → i ≤ end_of n w k → i < n → byte_at w k i ≡ byte_at x j i) → stored n w k ≡ stored n x j
unfolding stored
stored-front n w x k j e =
    let l : ℕ = end_of n w k in let L = end_is n w k in
    let q : end_of n x j ≡ l = end-at n x j l L.most (λ i h. sym (ap ends (e i (omega arith) (omega (arith, L.most)))) ∙ L.passed i h)
    (λ h. subst (λ (b : ℕ). 0 < ends b) (e l (omega arith) h) (L.there h)) in
    bytes_same w x k j l (λ i h. e i (omega arith) (omega (arith, L.most))) ∙ ap (bytes x j) (sym q)

-- words that are the same store the same name
pub stored-words : (n : ℕ) (w x : Words) (k j : ℕ) → ((i : ℕ) → i < n → w (k + i / 2) ≡ x (j + i / 2)) → stored n w k ≡ stored n x j
unfolding byte_at
stored-words n w x k j e = stored-front n w x k j (λ i h l. ap (λ (b : ℕ). b / 256 ^ (1 - i % 2) % 256) (e i l))
