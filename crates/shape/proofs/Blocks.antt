-- Blocks as parts of 1,024 words, and the trees under them. Assumes nothing.
use mathlib.Core.Path.{◌≡◌, sym, ◌∙◌, subst, subst₂}
use mathlib.Core.Bool.{Bool}
use mathlib.Core.List.{List}
use Prim.Native.Nat.{ℕ, zero, suc, ◌+◌, ◌*◌, ◌/◌, ◌^◌, ◌≤◌, ◌<◌}
use native.Mathlib.Decide.{dec_lt}
use native.Mathlib.Omega.{arith}
use Rattle.book.specs.Decides.{Decides}
use Rattle.book.specs.Pointers.{slot}
use Rattle.book.specs.Trees.{Fill, Below}
use Rattle.book.specs.Words.{Vol, vol}
use Rattle.laws.specs.Tree.Weigh.{fill-zero, below-zero}
use Rattle.page.proofs.Deciding.{decides-iff}
use Rattle.tree.specs.Blocks.{pointer_in, Linked, Unlinked, share}
use Rattle.tree.proofs.Blocks.{part_of, part-slot}
use Rattle.shape.specs.Shapes.{Filled, Indexes}

-- ---- a tree of n positions, over its level

module _ (P : ℕ) (v : Vol) (n : ℕ) (some : 0 < n) where
  -- its top is in 1..P-1
  pub filled-top : (l t : ℕ) → Filled P v l t n → (0 < t) × (t < P)
  unfolding Fill Below
  filled-top zero t f = (f.0.0 some, f.1)
  filled-top (suc l) t f = (f.0.0 some, f.1.0)

  -- m slots p of its top block are in use, and decide of it
  module _ (l t m : ℕ) (p : ℕ → ℕ) (low : 0 < t) (high : t < P) (read : (k : ℕ) → p k ≡ slot v t k) (past : (k : ℕ) → m ≤ k → n ≤ k * 512 ^ l) where
    abbrev Slots : Type 0
    Slots = ((k : ℕ) → k < m → k < 512 → Filled P v l (p k) (share l n k)) × ((k : ℕ) → k < 512 → m ≤ k → p k ≡ 0)

    slot-past : Slots → (k : ℕ) → k < 512 → Filled P v l (p k) (share l n k)
    slot-past s k h = elim (dec_lt k m) [
      | yes i ↦ s.0 k i h
      | no i ↦
          let e : 0 ≡ share l n k = omega (arith, past k (omega arith)) in
          let z : 0 ≡ p k = sym (s.1 k h (omega arith)) in
          (subst₂ (λ (x y : ℕ). Fill v l x y) z e (fill-zero v l), subst (λ (x : ℕ). Below v P l x) z (below-zero v P l (omega arith)))
    ]

    from-slots : Slots → Filled P v (suc l) t n
    unfolding Fill Below
    from-slots s = (
      (
        (λ h. low),
        (λ e. absurd (let r : ⊥ = omega arith in r)),
        λ k h. subst (λ (x : ℕ). Fill v l x (share l n k)) (read k) (slot-past s k h).0,
      ),
      (high, λ k h. subst (λ (x : ℕ). Below v P l x) (read k) (slot-past s k h).1),
    )

    to_slots : Filled P v (suc l) t n → Slots
    unfolding Fill Below
    to_slots f = (
      (λ k i h. (subst (λ (x : ℕ). Fill v l x (share l n k)) (sym (read k)) (f.0.2 k h), subst (λ (x : ℕ). Below v P l x) (sym (read k)) (f.1.1 k h))),
      λ k h i. read k ∙ none l (slot v t k) (share l n k) (f.0.2 k h) (let e : share l n k ≡ 0 = omega (arith, past k i) in e),
    )
      where
        none : (j x y : ℕ) → Fill v j x y → y ≡ 0 → x ≡ 0
        none zero x y g e = g.1 e
        none (suc j) x y g e = g.1 e

    pub decides-block : (r : Bool) → Decides r Slots → Decides r (Filled P v (suc l) t n)
    decides-block r = decides-iff r _ _ from-slots to_slots

-- an index block, from its part
module _ (img : List ℕ) (P b n : ℕ) (some : 0 < n) (most : n ≤ 512) (low : 0 < b) (high : b < P) where
  pub decides-index : (r : Bool) → Decides r (Linked 1 P (part_of img b) n × Unlinked (part_of img b) n 512) → Decides r (Filled P (vol img) 1 b n)
  unfolding Fill Below
  decides-index r d =
      decides-block P (vol img) n some 0 b n (pointer_in (part_of img b)) low high (part-slot img b low) (λ k h. omega arith) r
      (decides-iff r _ _
      (λ s. ((λ k h i. ((((λ q. (s.0 k h).0)), λ e. absurd (let z : ⊥ = omega arith in z)), (s.0 k h).1)), λ k h i. s.1 k h i))
      (λ s. ((λ k h. let f = s.0 k h (omega arith) in (f.0.0 (omega arith), f.1)), λ k h i. s.1 k h i))
      d)

-- a subindex block, from its part
module _ (img : List ℕ) (P t n : ℕ) (some : 0 < n) (most : n ≤ 262144) (low : 0 < t) (high : t < P) where
  pub decides-subindex : (r : Bool) → Decides r (Indexes P (vol img) (part_of img t) n ((n + 511) / 512) × Unlinked (part_of img t) ((n + 511) / 512) 512) → Decides r (Filled P (vol img) 2 t n)
  decides-subindex r d =
      decides-block P (vol img) n some 1 t ((n + 511) / 512) (pointer_in (part_of img t)) low high (part-slot img t low) (λ k h. omega arith) r
      (decides-iff r _ _ (λ s. ((λ k h i. s.0 k h), s.1)) (λ s. (
        (λ k h. elim (dec_lt k 512) [
          | yes i ↦ s.0 k h i
          | no i ↦ absurd (let z : ⊥ = omega arith in z)
        ]),
        s.1,
      )) d)
