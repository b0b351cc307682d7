-- Sweeping a volume place by place, from v to w: the volume on the way, one step and a gap. Assumes nothing.
use mathlib.Core.Path.{◌≡◌, sym, ap, ◌∙◌, subst₂, fun_ext}
use Prim.Native.Nat.{ℕ, zero, suc, ◌+◌, ◌*◌, ◌/◌, ◌%◌, ◌≤◌, ◌<◌}
use native.Mathlib.Decide.{ℕ_discrete, dec_lt}
use native.Mathlib.Omega.{arith}
use Rattle.sums.specs.Search.{pick, pick_yes, pick_no, at_least}
use Rattle.book.specs.Words.{Vol, put}
use Rattle.book.specs.Written.{put-here, put-page, put_word}
use Rattle.laws.specs.Salvage.Changes.{changed-suc, changes-no, differ-no}
use Rattle.book.specs.Salvage.{word_at, differ, changes, changed}

-- w at the places below i, v at the others
unfoldable pub mix : Vol → Vol → ℕ → Vol
mix v w i p k = pick (at_least (suc (1024 * p + k)) i) (w p k) (v p k)

-- past a page's words there is nothing to sweep
abbrev pub Alike : Vol → Vol → Type 0
Alike v w = (p k : ℕ) → 1024 ≤ k → w p k ≡ v p k

module _ (v w : Vol) where
  pub mix-new : (i p k : ℕ) → 1024 * p + k < i → mix v w i p k ≡ w p k
  unfolding mix
  mix-new i p k h = pick_yes (at_least (suc (1024 * p + k)) i) (w p k) (v p k) (omega arith)

  -- a word that is not reached yet is as it was
  pub mix-old : (i p k : ℕ) → i ≤ 1024 * p + k → mix v w i p k ≡ v p k
  unfolding mix
  mix-old i p k h = pick_no (at_least (suc (1024 * p + k)) i) (w p k) (v p k) (omega arith)

  pub mix-none : mix v w 0 ≡ v
  mix-none = fun_ext (λ p. fun_ext (λ k. mix-old 0 p k (omega arith)))

  pub mix_all : (P : ℕ) → Alike v w → ((p k : ℕ) → P ≤ p → w p k ≡ v p k) → mix v w (1024 * P) ≡ w
  mix_all P a o = fun_ext (λ p. fun_ext (λ k. elim (dec_lt (1024 * p + k) (1024 * P)) [
    | yes h ↦ mix-new (1024 * P) p k h
    | no h ↦ mix-old (1024 * P) p k (omega arith) ∙ elim (dec_lt k 1024) [
      | yes i ↦ sym (o p k (omega arith))
      | no i ↦ sym (a p k (omega arith))
    ]
  ]))

  -- the word at place i is written
  pub mix-step : Alike v w → (i : ℕ) → put (mix v w i) (i / 1024) (i % 1024) (word_at w i) ≡ mix v w (suc i)
  mix-step a i = fun_ext (λ p. fun_ext (λ k. elim (ℕ_discrete p (i / 1024)) [
    | no n ↦ put-page (mix v w i) (i / 1024) (i % 1024) (word_at w i) p k n ∙ other p k (λ c. elim (dec_lt k 1024) [
      | yes h ↦ absurd (n (omega arith))
      | no h ↦ a p k (omega arith)
    ])
    | yes e ↦ elim (ℕ_discrete k (i % 1024)) [
      | no n ↦ put_word (mix v w i) (i / 1024) (i % 1024) (word_at w i) p k n ∙ other p k (λ c. absurd (n (omega arith)))
      | yes f ↦ subst₂ (λ (y z : ℕ). put (mix v w i) (i / 1024) (i % 1024) (word_at w i) y z ≡ mix v w (suc i) y z) (sym e) (sym f)
          (put-here (mix v w i) (i / 1024) (i % 1024) (word_at w i) ∙ sym (mix-new (suc i) (i / 1024) (i % 1024) (omega arith)))
    ]
  ]))
    where
      other : (p k : ℕ) → (1024 * p + k ≡ i → w p k ≡ v p k) → mix v w i p k ≡ mix v w (suc i) p k
      other p k h = elim (dec_lt (1024 * p + k) i) [
        | yes l ↦ mix-new i p k l ∙ sym (mix-new (suc i) p k (omega arith))
        | no l ↦ elim (ℕ_discrete (1024 * p + k) i) [
          | yes e ↦ mix-old i p k (omega arith) ∙ sym (h e) ∙ sym (mix-new (suc i) p k (omega arith))
          | no n ↦ mix-old i p k (omega arith) ∙ sym (mix-old (suc i) p k (omega arith))
        ]
      ]

  -- a gap: the places from i on below m agree
  pub mix-skip : Alike v w → (i m : ℕ) → i ≤ m → ((p k : ℕ) → k < 1024 → i ≤ 1024 * p + k → 1024 * p + k < m → w p k ≡ v p k) → mix v w i ≡ mix v w m
  mix-skip a i m h g = fun_ext (λ p. fun_ext (λ k. elim (dec_lt (1024 * p + k) i) [
    | yes l ↦ mix-new i p k l ∙ sym (mix-new m p k (omega arith))
    | no l ↦ elim (dec_lt (1024 * p + k) m) [
      | no n ↦ mix-old i p k (omega arith) ∙ sym (mix-old m p k (omega arith))
      | yes n ↦ mix-old i p k (omega arith) ∙ elim (dec_lt k 1024) [
        | yes c ↦ sym (g p k c (omega arith) n) ∙ sym (mix-new m p k n)
        | no c ↦ sym (a p k (omega arith)) ∙ sym (mix-new m p k n)
      ]
    ]
  ]))

  -- ---- the list

  pub same_step : (i : ℕ) → differ v w i ≡ 0 → (changes v w (suc i) ≡ changes v w i) × (changed v w (suc i) ≡ changed v w i)
  same_step i z = (changes-no v w i z, omega (arith, changed-suc v w i, z))

  -- a gap: nothing is listed
  pub changes-skip : (i m : ℕ) → i ≤ m → ((j : ℕ) → i ≤ j → j < m → word_at w j ≡ word_at v j) → (changes v w m ≡ changes v w i) × (changed v w m ≡ changed v w i)
  changes-skip i zero h g = let e : 0 ≡ i = omega arith in (ap (changes v w) e, ap (changed v w) e)
  changes-skip i (suc m) h g = elim (ℕ_discrete i (suc m)) [
    | yes e ↦ (ap (changes v w) (sym e), ap (changed v w) (sym e))
    | no n ↦
        let r = changes-skip i m (omega arith) (λ j a b. g j a (omega arith)) in
        let s = same_step m (differ-no v w m (sym (g m (omega arith) (omega arith)))) in
        (s.0 ∙ r.0, s.1 ∙ r.1)
  ]
