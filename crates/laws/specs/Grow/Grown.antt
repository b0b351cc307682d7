-- A tree of pages grows by one position. Assumes nothing.
use Rattle.std.specs.Prelude.{◌≡◌, refl, ◌≢◌}
use Rattle.std.proofs.Common.{sym, ◌∙◌, not-suc-le-zero, mod-lt, div-add-mod', suc-mul, mod-eq_of_lt}
use Rattle.std.proofs.Math.Path.{ap, ap₂, subst, subst₂}
use Prim.Native.Nat.{ℕ, suc, ◌+◌, ◌-◌, ◌*◌, ◌/◌, ◌%◌, ◌^◌, ◌≤◌, ◌<◌, min}
use Rattle.std.proofs.Math.Nat.{mul-le-mul_right, zero-div, zero-mod, div-eq_of_lt, div_self, mod_self}
use Rattle.std.proofs.Math.Decide.{ℕ_discrete, dec_lt}
use native.Mathlib.Omega.{arith}
use Rattle.sums.specs.Sum.{sum, sum-none, sum-change, sum-only, sum-only₂}
use Rattle.book.specs.Pointers.{slot}
use Rattle.book.specs.Trees.{weigh, blocks, leaf, Below, Fill}
use Rattle.book.specs.Words.{Vol}
use Rattle.laws.specs.Tree.Slot.{Agree, slot-zero}
use Rattle.laws.specs.Tree.Weigh.{weigh-none, weigh-frame, leaf-frame, Below-frame, Fill-frame, pow_pos, slot_lt, fill-zero, below-zero}

-- ---- how many of n positions lie under slot j

module _ (L n : ℕ) (pos : 0 < L) where
  pub part-old : min (n - n / L * L) L ≡ n % L
  part-old = omega (arith, div-add-mod' n L, mod-lt n pos)

  pub part-here : min (suc n - n / L * L) L ≡ suc (n % L)
  part-here = omega (arith, div-add-mod' n L, mod-lt n pos)

  pub part-other : (j : ℕ) → j ≢ n / L → min (suc n - j * L) L ≡ min (n - j * L) L
  part-other j ne = elim (dec_lt j (n / L)) [
    | yes h ↦ omega (arith, div-add-mod' n L, mod-lt n pos, mul-le-mul_right L h, suc-mul j L)
    | no h ↦ let h' : suc (n / L) ≤ j = omega arith in omega (arith, div-add-mod' n L, mod-lt n pos, mul-le-mul_right L h', suc-mul (n / L) L)
  ]

-- ---- the tree under t of level l had n positions; under t' it has one more, with new pages

pub record Grown (P : ℕ) (v v' : Vol) (l t t' n d : ℕ) (new : (ℕ → ℕ) → ℕ) : Type 0 where
  pub weight : (g : ℕ → ℕ) → g 0 ≡ 0 → weigh v' l t' g ≡ weigh v l t g + new g
  pub fill : Fill v' l t' (suc n)
  pub old : (m : ℕ) → m < n → leaf v' l t' m ≡ leaf v l t m
  pub at : leaf v' l t' n ≡ d
  pub inside : Below v' P l t'

-- a new page where none was
pub grown-page : (P : ℕ) (v v' : Vol) (d : ℕ) → 0 < d → d < P → Grown P v v' 0 0 d 0 d (λ g. g d)
unfolding weigh Fill Below leaf
grown-page P v v' d h i = record { weight = λ g g0. omega (arith, g0); fill = ((λ j. h), λ j. absurd (let z : ⊥ = omega arith in z)); old = λ m q. absurd (not-suc-le-zero q); at = refl; inside = i }

-- a new block where none was, over a new page or block in its first slot
pub grown-block : (P : ℕ) (v v' : Vol) (l b c d : ℕ) (new : (ℕ → ℕ) → ℕ) → 0 < P → 0 < b → b < P → slot v' b 0 ≡ c → ((k : ℕ) → k ≢ 0 → slot v' b k ≡ 0)
    → Grown P v v' l 0 c 0 d new → Grown P v v' (suc l) 0 b 0 d (λ g. g b + new g)
unfolding weigh Fill Below leaf
grown-block P v v' l b c d new pp pb lb sc so G = record {
  weight = w;
  fill = ((λ j. pb), (λ j. absurd (let z : ⊥ = omega arith in z)), fl);
  old = λ m q. absurd (not-suc-le-zero q);
  at = ap₂ (λ (x y : ℕ). leaf v' l (slot v' b x) y) (zero-div (512 ^ l)) (zero-mod (512 ^ l)) ∙ ap (λ (x : ℕ). leaf v' l x 0) sc ∙ G.at;
  inside = (lb, bl);
}
  where
    w : (g : ℕ → ℕ) → g 0 ≡ 0 → g b + sum 512 (λ k. weigh v' l (slot v' b k) g) ≡ g 0 + sum 512 (λ k. weigh v l (slot v 0 k) g) + (g b + new g)
    w g g0 =
        let c0 : weigh v' l (slot v' b 0) g ≡ weigh v l 0 g + new g = ap (λ (x : ℕ). weigh v' l x g) sc ∙ G.weight g g0 in
        omega (
          arith,
          g0,
          c0,
          weigh-none v g g0 l,
          sum-only 512 (λ k. weigh v' l (slot v' b k) g) 0 (omega arith) (λ j h n. ap (λ (x : ℕ). weigh v' l x g) (so j n) ∙ weigh-none v' g g0 l),
          sum-none 512 (λ k. weigh v l (slot v 0 k) g) (λ k h. ap (λ (x : ℕ). weigh v l x g) (slot-zero v k) ∙ weigh-none v g g0 l),
        )

    fl : (k : ℕ) → k < 512 → Fill v' l (slot v' b k) (min (1 - k * 512 ^ l) (512 ^ l))
    fl k h = elim (ℕ_discrete k 0) [
      | yes e ↦ subst₂ (λ (x y : ℕ). Fill v' l x y) (sym (ap (slot v' b) e ∙ sc)) (let q : 1 ≡ min (1 - k * 512 ^ l) (512 ^ l) = omega (arith, pow_pos l, ap (λ (x : ℕ). x * 512 ^ l) e) in q) G.fill
      | no n ↦ let m : 1 ≤ k = omega arith in
          subst₂ (λ (x y : ℕ). Fill v' l x y) (sym (so k n)) (let q : 0 ≡ min (1 - k * 512 ^ l) (512 ^ l) = omega (arith, pow_pos l, mul-le-mul_right (512 ^ l) m) in q) (fill-zero v' l)
    ]

    bl : (k : ℕ) → k < 512 → Below v' P l (slot v' b k)
    bl k h = elim (ℕ_discrete k 0) [
      | yes e ↦ subst (λ (x : ℕ). Below v' P l x) (sym (ap (slot v' b) e ∙ sc)) G.inside
      | no n ↦ subst (λ (x : ℕ). Below v' P l x) (sym (so k n)) (below-zero v' P l pp)
    ]

-- the subtree that position n belongs to grows
pub grown-up : (P : ℕ) (v v' : Vol) (C : ℕ → ℕ) → Agree C v v' → (l t n d : ℕ) (new : (ℕ → ℕ) → ℕ) → 0 < t → n < 512 ^ suc l
    → ((j : ℕ) → j ≢ n / 512 ^ l → slot v' t j ≡ slot v t j) → ((j : ℕ) → j < 512 → j ≢ n / 512 ^ l → blocks v l (slot v t j) C ≡ 0)
    → Fill v (suc l) t n → Below v P (suc l) t
    → Grown P v v' l (slot v t (n / 512 ^ l)) (slot v' t (n / 512 ^ l)) (n % 512 ^ l) d new → Grown P v v' (suc l) t t n d new
unfolding weigh Fill Below leaf
grown-up P v v' C A l t n d new pt hn so bz F B G = record { weight = w; fill = ((λ j. pt), (λ j. absurd (let z : ⊥ = omega arith in z)), fl); old = old; at = G.at; inside = (B.0, bl) }
  where
    old : (m : ℕ) → m < n → leaf v' l (slot v' t (m / 512 ^ l)) (m % 512 ^ l) ≡ leaf v l (slot v t (m / 512 ^ l)) (m % 512 ^ l)
    old m q = elim (ℕ_discrete (m / 512 ^ l) (n / 512 ^ l)) [
      | yes e ↦ subst (λ (x : ℕ). leaf v' l (slot v' t x) (m % 512 ^ l) ≡ leaf v l (slot v t x) (m % 512 ^ l)) (sym e)
          (G.old (m % 512 ^ l) (omega (arith, q, div-add-mod' m (512 ^ l), div-add-mod' n (512 ^ l), ap (λ (x : ℕ). x * 512 ^ l) e)))
      | no ne ↦ ap (λ (x : ℕ). leaf v' l x (m % 512 ^ l)) (so (m / 512 ^ l) ne)
          ∙ leaf-frame v v' C A l (slot v t (m / 512 ^ l)) (bz (m / 512 ^ l) (slot_lt l m (omega arith)) ne) (m % 512 ^ l) (mod-lt m (pow_pos l))
    ]

    w : (g : ℕ → ℕ) → g 0 ≡ 0 → g t + sum 512 (λ k. weigh v' l (slot v' t k) g) ≡ g t + sum 512 (λ k. weigh v l (slot v t k) g) + new g
    w g g0 = omega (
      arith,
      G.weight g g0,
      sum-change 512 (λ k. weigh v l (slot v t k) g) (λ k. weigh v' l (slot v' t k) g) (n / 512 ^ l) (slot_lt l n hn)
          (λ j h ne. ap (λ (x : ℕ). weigh v' l x g) (so j ne) ∙ weigh-frame v v' C A l (slot v t j) (bz j h ne) g),
    )

    fl : (k : ℕ) → k < 512 → Fill v' l (slot v' t k) (min (suc n - k * 512 ^ l) (512 ^ l))
    fl k h = elim (ℕ_discrete k (n / 512 ^ l)) [
      | yes e ↦ subst (λ (x : ℕ). Fill v' l (slot v' t x) (min (suc n - x * 512 ^ l) (512 ^ l))) (sym e)
          (subst (λ (x : ℕ). Fill v' l (slot v' t (n / 512 ^ l)) x) (sym (part-here (512 ^ l) n (pow_pos l))) G.fill)
      | no ne ↦ subst₂ (λ (x y : ℕ). Fill v' l x y) (sym (so k ne)) (sym (part-other (512 ^ l) n (pow_pos l) k ne)) (Fill-frame v v' C A l (slot v t k) _ (bz k h ne) (F.2 k h))
    ]

    bl : (k : ℕ) → k < 512 → Below v' P l (slot v' t k)
    bl k h = elim (ℕ_discrete k (n / 512 ^ l)) [
      | yes e ↦ subst (λ (x : ℕ). Below v' P l (slot v' t x)) (sym e) G.inside
      | no ne ↦ subst (λ (x : ℕ). Below v' P l x) (sym (so k ne)) (Below-frame v v' C A P l (slot v t k) (bz k h ne) (B.1 k h))
    ]

-- a full tree becomes the first slot of a block above, and the next slot has a new one
module _ (P : ℕ) (v v' : Vol) (C : ℕ → ℕ) (A : Agree C v v') (l t s b d : ℕ) (new : (ℕ → ℕ) → ℕ) (pp : 0 < P) (ps : 0 < s) (ls : s < P)
    (s0 : slot v' s 0 ≡ t) (s1 : slot v' s 1 ≡ b) (so : (k : ℕ) → k ≢ 0 → k ≢ 1 → slot v' s k ≡ 0) (bz : blocks v l t C ≡ 0)
    (F : Fill v l t (512 ^ l)) (B : Below v P l t) (G : Grown P v v' l 0 b 0 d new) where
  pub raise-weight : (g : ℕ → ℕ) → g 0 ≡ 0 → weigh v' (suc l) s g ≡ weigh v l t g + (g s + new g)
  unfolding weigh
  raise-weight g g0 =
      omega (
        arith,
        sum-only₂ 512 (λ k. weigh v' l (slot v' s k) g) 0 1 (omega arith) (omega arith) (omega arith) (λ j h m n. ap (λ (x : ℕ). weigh v' l x g) (so j m n) ∙ weigh-none v' g g0 l),
        ap (λ (x : ℕ). weigh v' l x g) s0 ∙ weigh-frame v v' C A l t bz g,
        ap (λ (x : ℕ). weigh v' l x g) s1 ∙ G.weight g g0,
        weigh-none v g g0 l,
      )

  pub raise-fill : Fill v' (suc l) s (suc (512 ^ l))
  unfolding Fill
  raise-fill = ((λ j. ps), (λ j. absurd (let z : ⊥ = omega arith in z)), fl)
    where
      fl : (k : ℕ) → k < 512 → Fill v' l (slot v' s k) (min (suc (512 ^ l) - k * 512 ^ l) (512 ^ l))
      fl k h = elim (ℕ_discrete k 0) [
        | yes e ↦ subst₂ (λ (x y : ℕ). Fill v' l x y) (sym (ap (slot v' s) e ∙ s0)) (let q : 512 ^ l ≡ min (suc (512 ^ l) - k * 512 ^ l) (512 ^ l) = omega (arith, ap (λ (x : ℕ). x * 512 ^ l) e) in q)
            (Fill-frame v v' C A l t (512 ^ l) bz F)
        | no n ↦ elim (ℕ_discrete k 1) [
          | yes e ↦ subst₂ (λ (x y : ℕ). Fill v' l x y) (sym (ap (slot v' s) e ∙ s1)) (let q : 1 ≡ min (suc (512 ^ l) - k * 512 ^ l) (512 ^ l) = omega (arith, pow_pos l, ap (λ (x : ℕ). x * 512 ^ l) e) in q) G.fill
          | no m ↦ let k2 : 2 ≤ k = omega arith in
              subst₂ (λ (x y : ℕ). Fill v' l x y) (sym (so k n m)) (let q : 0 ≡ min (suc (512 ^ l) - k * 512 ^ l) (512 ^ l) = omega (arith, pow_pos l, mul-le-mul_right (512 ^ l) k2) in q) (fill-zero v' l)
        ]
      ]

  pub raise-below : Below v' P (suc l) s
  unfolding Below
  raise-below = (
    ls,
    λ k h. elim (ℕ_discrete k 0) [
      | yes e ↦ subst (λ (x : ℕ). Below v' P l x) (sym (ap (slot v' s) e ∙ s0)) (Below-frame v v' C A P l t bz B)
      | no n ↦ elim (ℕ_discrete k 1) [
        | yes e ↦ subst (λ (x : ℕ). Below v' P l x) (sym (ap (slot v' s) e ∙ s1)) G.inside
        | no m ↦ subst (λ (x : ℕ). Below v' P l x) (sym (so k n m)) (below-zero v' P l pp)
      ]
    ],
  )

  pub raise-old : (m : ℕ) → m < 512 ^ l → leaf v' (suc l) s m ≡ leaf v l t m
  unfolding leaf
  raise-old m h = ap₂ (λ (x y : ℕ). leaf v' l (slot v' s x) y) (div-eq_of_lt h) (mod-eq_of_lt h) ∙ ap (λ (x : ℕ). leaf v' l x m) s0 ∙ leaf-frame v v' C A l t bz m h

  pub raise-at : leaf v' (suc l) s (512 ^ l) ≡ d
  unfolding leaf
  raise-at = ap₂ (λ (x y : ℕ). leaf v' l (slot v' s x) y) (div_self (pow_pos l)) (mod_self (512 ^ l)) ∙ ap (λ (x : ℕ). leaf v' l x 0) s1 ∙ G.at
