-- Two results of one run coincide: the number of replies, the image, the list of changes and the replies. Assumes nothing.
use Rattle.std.specs.Prelude.{◌≡◌, refl, List, ℕ, suc, ◌<◌}
use Rattle.std.proofs.Common.{sym, ap, ap₂, ◌∙◌, subst, subst₂, arith}
use Rattle.std.proofs.Math.Decide.{dec_lt}
use Rattle.book.specs.Answers.{Numbers}
use Rattle.book.specs.Run.{step_of, StepResult, put_reply, Made, none, more, Ran, all, stopped}
use Rattle.run.specs.Fair.{lawful-step}

module _ (steps text words img₀ list₀ out₀ : List ℕ) where
  abbrev At : ℕ → List ℕ → List ℕ → List ℕ → Type 0
  At = Made steps text words img₀ list₀ out₀

  abbrev By : ℕ → List ℕ → List ℕ → Numbers ℕ → List ℕ → List ℕ → Type 0
  By k img list = StepResult img list (step_of steps k) text words

  same_step : (k : ℕ) (a b l m a' b' l' m' x y : List ℕ) (r s : Numbers ℕ) → (a ≡ b) × (l ≡ m) × (x ≡ y) → By k a l r a' l' → By k b m s b' m'
      → (r ≡ s) × (a' ≡ b') × (l' ≡ m') × (put_reply x k r ≡ put_reply y k s)
  same_step k a b l m a' b' l' m' x y r s e o p =
      let w = (lawful-step a l (step_of steps k) text words).one r s a' b' l' m' o (subst₂ (λ (i j : List ℕ). By k i j s b' m') (sym e.0) (sym e.1) p) in
      (w.0, w.1, w.2, ap₂ (λ (z : List ℕ) (n : Numbers ℕ). put_reply z k n) e.2 w.0)

  one-made : {k : ℕ} {a b l m x y : List ℕ} → At k a l x → At k b m y → (a ≡ b) × (l ≡ m) × (x ≡ y)
  one-made none none = (refl, refl, refl)
  one-made (more {k} {img = a} {img' = a'} {list = l} {list' = l'} {out = x} r t o z) (more {img = b} {img' = b'} {list = m} {list' = m'} {out = y} s u p w) =
      let q = same_step k a b l m a' b' l' m' x y r s (one-made t u) o p in (q.1, q.2, q.3)

  -- a step that was refused was not done
  halts : (k : ℕ) (a l x : List ℕ) (r : Numbers ℕ) (a' l' : List ℕ) → At k a l x → By k a l r a' l' → (r.number ≡ 0 → ⊥)
      → (n : ℕ) (b m y : List ℕ) → At n b m y → k < n → ⊥
  halts k a l x r a' l' t o h n b m y none g = omega (arith, g)
  halts k a l x r a' l' t o h n b m y (more {k = j} {img = c} {img' = c'} {list = d} {list' = d'} {out = z} s u p w) g = elim (dec_lt k j) [
    | yes i ↦ halts k a l x r a' l' t o h j c d z u i
    | no i ↦
        let e : j ≡ k = omega (arith, g, i) in
        let q = one-made t (subst (λ (i : ℕ). At i c d z) e u) in
        let f = same_step k a c l d a' c' l' d' x z r s q o (subst (λ (i : ℕ). By i c d s c' d') e p) in
        h (ap (λ (v : Numbers ℕ). v.number) f.0 ∙ w)
  ]

  pub one-run : {n m : ℕ} {a b l d x y : List ℕ} → Ran steps text words img₀ list₀ out₀ n a l x → Ran steps text words img₀ list₀ out₀ m b d y → (n ≡ m) × (a ≡ b) × (l ≡ d) × (x ≡ y)
  one-run {b} {d} {y} (all e s) (all f t) = let q = one-made s (subst (λ (i : ℕ). At i b d y) (f ∙ sym e) t) in (e ∙ sym f, q.0, q.1, q.2)
  one-run {n} {a} {l} {x} (all e s) (stopped {k} {img = c} {img' = c'} {list = i} {list' = i'} {out = u} r g t o h) = absurd (halts k c i u r c' i' t o h n a l x s (omega (arith, g, e)))
  one-run {m} {b} {d} {y} (stopped {k} {img = c} {img' = c'} {list = i} {list' = i'} {out = u} r g t o h) (all e s) = absurd (halts k c i u r c' i' t o h m b d y s (omega (arith, g, e)))
  one-run (stopped {k} {img = a} {img' = a'} {list = l} {list' = l'} {out = x} r g t o h) (stopped {k = j} {img = b} {img' = b'} {list = m} {list' = m'} {out = y} s f u p z) = elim (dec_lt k j) [
    | yes i ↦ absurd (halts k a l x r a' l' t o h j b m y u i)
    | no i ↦ elim (dec_lt j k) [
      | yes i' ↦ absurd (halts j b m y s b' m' u p z k a l x t i')
      | no i' ↦
          let e : j ≡ k = omega (arith, i, i') in
          let q = one-made t (subst (λ (i : ℕ). At i b m y) e u) in
          let w = same_step k a b l m a' b' l' m' x y r s q o (subst (λ (i : ℕ). By i b m s b' m') e p) in
          (ap suc (sym e), w.1, w.2, w.3 ∙ ap (λ (i : ℕ). put_reply y i s) (sym e))
    ]
  ]
