-- The used counts are written: each into its own two words, and no other word changes. Assumes nothing.
use Rattle.std.specs.Prelude.{◌≡◌, ◌≢◌}
use Rattle.std.proofs.Math.Path.{refl, ap}
use Rattle.std.proofs.Common.{sym, ◌∙◌, subst, not-suc-le-zero, eq-zero-or-pos, arith}
use Rattle.std.proofs.Math.Logic.{inl, inr}
use Prim.Native.Nat.{ℕ, zero, suc, ◌+◌, ◌/◌, ◌%◌, ◌≤◌, ◌<◌}
use Rattle.std.proofs.Math.Decide.{ℕ_discrete}
use Rattle.sums.specs.Search.{pick_yes, pick_no}
use Rattle.book.specs.Entries.{user_file, user, used, user_page, entry_word}
use Rattle.book.specs.Holders.{mine, some}
use Rattle.book.specs.Words.{Vol, put2}
use Rattle.book.specs.Written.{put2-hi, put2-lo}
use Rattle.book.specs.Rules.{Pointed}
use Rattle.book.specs.Salvage.{counted}
use Rattle.laws.specs.Frame.Places.{FieldOf, only-put2}
use Rattle.laws.specs.Frame.Roots.{used-page}
use Rattle.laws.specs.Salvage.Apart.{position}

-- a used user's entry has a page
pub has-page : (v : Vol) (u : ℕ) → 0 < used (user v u) → 0 < user_page v u
unfolding user user_page
has-page v u h = used-page v (user_file v) u h

-- written, and one more
module _ (v : Vol) (n : ℕ) where
  pub counted-yes : 0 < used (user v n) → counted v (suc n) ≡ put2 (counted v n) (user_page v n) (entry_word n + 16) (mine v n some)
  unfolding counted
  counted-yes h = pick_yes (used (user v n)) _ _ h

  pub counted-no : used (user v n) ≡ 0 → counted v (suc n) ≡ counted v n
  unfolding counted
  counted-no h = pick_no (used (user v n)) _ _ h

module _ (v : Vol) where
  pub counted-off : (n p k : ℕ) → ((u : ℕ) → u < n → 0 < used (user v u) → FieldOf (user_page v u) u 16 2 p k → ⊥) → counted v n p k ≡ v p k
  unfolding counted
  counted-off zero p k h = refl
  counted-off (suc n) p k h = elim (eq-zero-or-pos (used (user v n))) [
    | inl z ↦ ap (λ (w : Vol). w p k) (counted-no v n z) ∙ counted-off n p k (λ u l. h u (omega arith))
    | inr q ↦ ap (λ (w : Vol). w p k) (counted-yes v n q) ∙ only-put2 (counted v n) (user_page v n) (entry_word n + 16) (mine v n some) p k (h n (omega arith) q)
        ∙ counted-off n p k (λ u l. h u (omega arith))
  ]

module _ (P : ℕ) (v : Vol) (S : Pointed P v) (pos : 0 < P) where
  -- word k of user u's entry is a word of x's used count only if x is u, and k is 16 or 17
  pub own-field : (u x k : ℕ) → k < 32 → 0 < user_page v u → FieldOf (user_page v x) x 16 2 (user_page v u) (entry_word u + k) → (u ≡ x) × (16 ≤ k) × (k < 18)
  unfolding user_page
  own-field u x k hk h c =
      let e : u / 32 ≡ x / 32 = position P v S pos (u / 32) (x / 32) h c.0 in
      let m : u % 32 ≡ x % 32 = omega (arith, c.1, c.2) in
      (omega (arith, e, m), omega (arith, c.1, m), omega (arith, c.2, m))

  pub counted-at : (n u : ℕ) → u < n → 0 < used (user v u)
      → (counted v n (user_page v u) (entry_word u + 16) ≡ mine v u some / 65536) × (counted v n (user_page v u) (suc (entry_word u + 16)) ≡ mine v u some % 65536)
  counted-at zero u h uu = absurd (not-suc-le-zero h)
  counted-at (suc n) u h uu = elim (ℕ_discrete u n) [
    | yes e ↦
        let uu' : 0 < used (user v n) = subst (λ (x : ℕ). 0 < used (user v x)) e uu in
        subst (λ (x : ℕ). (counted v (suc n) (user_page v x) (entry_word x + 16) ≡ mine v x some / 65536) × (counted v (suc n) (user_page v x) (suc (entry_word x + 16)) ≡ mine v x some % 65536)) (sym e) (
          ap (λ (w : Vol). w (user_page v n) (entry_word n + 16)) (counted-yes v n uu') ∙ put2-hi (counted v n) (user_page v n) (entry_word n + 16) (mine v n some),
          ap (λ (w : Vol). w (user_page v n) (suc (entry_word n + 16))) (counted-yes v n uu') ∙ put2-lo (counted v n) (user_page v n) (entry_word n + 16) (mine v n some),
        )
    | no ne ↦ let r = counted-at n u (omega arith) uu in
        (step u ne uu (entry_word u + 16) 16 (omega arith) refl ∙ r.0, step u ne uu (suc (entry_word u + 16)) 17 (omega arith) (omega arith) ∙ r.1)
  ]
    where
      step : (u : ℕ) → u ≢ n → 0 < used (user v u) → (j k : ℕ) → k < 32 → j ≡ entry_word u + k → counted v (suc n) (user_page v u) j ≡ counted v n (user_page v u) j
      step u ne uu j k hk e = elim (eq-zero-or-pos (used (user v n))) [
        | inl z ↦ ap (λ (w : Vol). w (user_page v u) j) (counted-no v n z)
        | inr q ↦ ap (λ (w : Vol). w (user_page v u) j) (counted-yes v n q)
            ∙ only-put2 (counted v n) (user_page v n) (entry_word n + 16) (mine v n some) (user_page v u) j
            (λ c. ne (own-field u n k hk (has-page v u uu) (c.0, omega (arith, e, c.1), omega (arith, e, c.2))).0)
      ]
