-- Rule 5, by the parts that the code judges. Assumes nothing.
use mathlib.Core.Path.{◌≡◌, sym, ◌∙◌, subst}
use mathlib.Core.Logic.{inl, inr}
use mathlib.Core.Bool.{Bool}
use Prim.Native.Nat.{ℕ, ◌<◌}
use native.Mathlib.Decide.{dec_lt}
use native.Mathlib.Omega.{arith}
use Rattle.book.specs.Words.{Vol}
use Rattle.book.specs.Pointers.{flags, page, slot, Inside, object_pointer}
use Rattle.book.specs.Trees.{Below}
use Rattle.book.specs.Entries.{user}
use Rattle.book.specs.Rules.{Rule2, Rule5, Rule5By}
use Rattle.book.specs.Decides.{Decides}
use Rattle.page.proofs.Deciding.{decides-iff}
use Rattle.laws.specs.Tree.Pointer.{zero_flags}
use Rattle.heads.specs.Slots.{Slots}
use Rattle.heads.specs.Span.{Span}
use Rattle.heads.specs.Fine.{Unused}
use Rattle.heads.proofs.Slots.{slots-absent}

-- x and t are the flags and the page of the object pointer
module _ (P : ℕ) (v : Vol) (x t : ℕ) (a : x ≡ flags (v 0) object_pointer) (e : t ≡ page (v 0) object_pointer) where
  rule5-at : (y : ℕ) → x ≡ y → Rule5By P v y t → Rule5 P v
  unfolding Rule5
  rule5-at y q r = subst (λ (z : ℕ). Rule5By P v z (page (v 0) object_pointer)) (sym q ∙ a) (subst (λ (z : ℕ). Rule5By P v y z) e r)

  at-rule5 : (y : ℕ) → x ≡ y → Rule5 P v → Rule5By P v y t
  unfolding Rule5
  at-rule5 y q r = subst (λ (z : ℕ). Rule5By P v y z) (sym e) (subst (λ (z : ℕ). Rule5By P v z (page (v 0) object_pointer)) (sym a ∙ q) r)

  -- ---- indexed

  pub rule5-index : x ≡ 1 → Rule5 P v → Slots P v t 512
  unfolding Rule5By Below Slots
  rule5-index q r n h = let s = at-rule5 1 q r in (s.0.1 n h, λ l. absurd (let z : ⊥ = omega arith in z))

  pub rule5-low : (b : Bool) → x ≡ 1 → t < P → Slots P v t 512 → Decides b (Span (Unused (user v)) 64 256) → Decides b (Rule5 P v)
  unfolding Rule5By Below Slots Span
  rule5-low b q h s = decides-iff b _ _ (λ u. rule5-at 1 q ((h, λ k l. (s k l).0), λ y i j. u y i j)) (λ r y i j. (at-rule5 1 q r).1 y i j)

  -- ---- subindexed

  pub rule5-sub : x ≡ 2 → Rule5 P v → Slots P v t 4
  unfolding Rule5By Below Slots
  rule5-sub q r n h = let s = at-rule5 2 q r in ((s.0.1 n h).0, λ l. s.1 n l h)

  -- blocks of slots 0..3 are judged, and the others are absent
  sub-below : t < P → Slots P v t 4 → Span (λ i. Slots P v (slot v t i) 512) 0 4 → (k : ℕ) → k < 512 → Below v P 1 (slot v t k)
  unfolding Slots Span Below
  sub-below h s w k l = elim (dec_lt k 4) [
    | yes i ↦ ((s k l).0, λ j m. (w k (omega arith) i j m).0)
    | no i ↦ ((s k l).0, λ j m. (slots-absent P v (slot v t k) 512 ((s k l).1 (omega arith)) (omega arith) j m).0)
  ]

  pub rule5-blocks : (b : Bool) → x ≡ 2 → t < P → Slots P v t 4 → Decides b (Span (λ i. Slots P v (slot v t i) 512) 0 4) → Decides b (Rule5 P v)
  unfolding Rule5By Below Slots Span
  rule5-blocks b q h s =
      decides-iff b _ _ (λ w. rule5-at 2 q ((h, sub-below h s w), λ i m l. (s i l).1 m))
      (λ r k z l j m. (((at-rule5 2 q r).0.1 k (omega arith)).1 j m, λ o. absurd (let z : ⊥ = omega arith in z)))

  -- ---- neither

  pub rule5-none : Rule2 P v → (x ≡ 1 → ⊥) → (x ≡ 2 → ⊥) → Rule5 P v
  unfolding Rule2 Inside Rule5By
  rule5-none (inl z) i s = rule5-at 0 (a ∙ zero_flags (v 0) object_pointer z.1) tt
  rule5-none (inr (u, inl o)) i s = absurd (i (a ∙ o.0))
  rule5-none (inr (u, inr o)) i s = absurd (s (a ∙ o.0))
