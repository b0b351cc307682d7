-- A tree of pages, over its level: its pages weighed, its blocks, its leaves; a page linked into a block. Assumes nothing.
use Rattle.std.specs.Prelude.{◌≡◌, ◌≢◌}
use Rattle.std.proofs.Math.Path.{refl, sym, ap, ap₂, subst}
use Rattle.std.proofs.Common.{◌∙◌, subst₂, le_refl, not-suc-le-zero, mul_comm, div-lt_iff_lt-mul, pow-suc, mul-le-mul_right}
use Prim.Native.Nat.{ℕ, zero, suc, ◌+◌, ◌-◌, ◌*◌, ◌/◌, ◌%◌, ◌^◌, ◌≤◌, ◌<◌, zero-le, min}
use Rattle.std.proofs.Math.Nat.{mod-lt, div-add-mod'}
use Rattle.std.proofs.Math.Decide.{ℕ_discrete}
use native.Mathlib.Omega.{arith}
use Rattle.std.proofs.Math.Arith.{lt-one}
use Rattle.sums.specs.Sum.{sum, sum-ext, sum-none, sum-add, sum-le, sum-at, sum-at-zero, sum-at₂, sum-change, sum-swap, sum-le-at, sum-mul, sum-const}
use Rattle.book.specs.Holders.{hit, some}
use Rattle.book.specs.Pointers.{slot}
use Rattle.book.specs.Trees.{weigh, blocks, leaf, Below, Fill, Root, tree, run}
use Rattle.book.specs.Words.{Vol, word}
use Rattle.laws.specs.Tree.Slot.{hit_same, hit_other, some-pos, sum-hit, slot-zero, slot_same, Agree}

pub pow_pos : (l : ℕ) → 0 < 512 ^ l
pow_pos zero = le_refl 1
pow_pos (suc l) = subst (λ (x : ℕ). 0 < x) (sym (pow-suc 512 l)) (omega (arith, pow_pos l))

pub slot_lt : (l n : ℕ) → n < 512 ^ suc l → n / 512 ^ l < 512
slot_lt l n h = (div-lt_iff_lt-mul (pow_pos l)).1 (subst (λ (x : ℕ). n < x) (pow-suc 512 l ∙ mul_comm (512 ^ l) 512) h)

-- ---- weighing

module _ (v : Vol) (g : ℕ → ℕ) (g0 : g 0 ≡ 0) where
  pub weigh-none : (l : ℕ) → weigh v l 0 g ≡ 0
  unfolding weigh
  weigh-none zero = g0
  weigh-none (suc l) = omega (arith, g0, sum-none 512 (λ k. weigh v l (slot v 0 k) g) (λ k h. ap (λ (t : ℕ). weigh v l t g) (slot-zero v k) ∙ weigh-none l))

  pub blocks-none : (l : ℕ) → blocks v l 0 g ≡ 0
  unfolding blocks
  blocks-none zero = refl
  blocks-none (suc l) = omega (arith, g0, sum-none 512 (λ k. blocks v l (slot v 0 k) g) (λ k h. ap (λ (t : ℕ). blocks v l t g) (slot-zero v k) ∙ blocks-none l))

  -- a block whose pointers are all zero is itself alone
  pub weigh-empty : (l t : ℕ) → ((k : ℕ) → k < 512 → slot v t k ≡ 0) → weigh v l t g ≡ g t
  unfolding weigh
  weigh-empty zero t h = refl
  weigh-empty (suc l) t h = omega (arith, sum-none 512 (λ k. weigh v l (slot v t k) g) (λ k i. ap (λ (x : ℕ). weigh v l x g) (h k i) ∙ weigh-none l))

module _ (v : Vol) where
  pub weigh-sum : (n : ℕ) (G : ℕ → ℕ → ℕ) (l t : ℕ) → sum n (λ p. weigh v l t (λ x. G p x)) ≡ weigh v l t (λ x. sum n (λ p. G p x))
  unfolding weigh
  weigh-sum n G zero t = refl
  weigh-sum n G (suc l) t =
      sum-add n (λ p. G p t) (λ p. sum 512 (λ k. weigh v l (slot v t k) (λ x. G p x)))
      ∙ ap (λ (s : ℕ). sum n (λ p. G p t) + s)
      (sum-swap n 512 (λ p k. weigh v l (slot v t k) (λ x. G p x))
      ∙ sum-ext 512 (λ k. sum n (λ p. weigh v l (slot v t k) (λ x. G p x))) (λ k. weigh v l (slot v t k) (λ x. sum n (λ p. G p x))) (λ k h. weigh-sum n G l (slot v t k)))

  pub weigh-ext : (P : ℕ) (g h : ℕ → ℕ) → ((x : ℕ) → x < P → g x ≡ h x) → (l t : ℕ) → Below v P l t → weigh v l t g ≡ weigh v l t h
  unfolding weigh Below
  weigh-ext P g h e zero t b = e t b
  weigh-ext P g h e (suc l) t b =
      ap₂ (λ (m n : ℕ). m + n) (e t b.0)
      (sum-ext 512 (λ k. weigh v l (slot v t k) g) (λ k. weigh v l (slot v t k) h) (λ k i. weigh-ext P g h e l (slot v t k) (b.1 k i)))

  -- the pages of a tree are counted by its holders
  pub weigh-count : (P l t : ℕ) → Below v P l t → sum P (λ p. weigh v l t (hit p)) ≡ weigh v l t some
  weigh-count P l t b = weigh-sum P hit l t ∙ weigh-ext P (λ x. sum P (λ p. hit p x)) some (sum-hit P) l t b

  pub blocks-le : (g : ℕ → ℕ) (l t : ℕ) → blocks v l t g ≤ weigh v l t g
  unfolding weigh blocks
  blocks-le g zero t = zero-le
  blocks-le g (suc l) t = omega (arith, sum-le 512 (λ k. blocks v l (slot v t k) g) (λ k. weigh v l (slot v t k) g) (λ k h. blocks-le g l (slot v t k)))

  -- a page at the bottom, and the blocks, are apart
  pub leaf-le : (g : ℕ → ℕ) (l t n : ℕ) → n < 512 ^ l → blocks v l t g + g (leaf v l t n) ≤ weigh v l t g
  unfolding weigh blocks leaf
  leaf-le g zero t n h = omega arith
  leaf-le g (suc l) t n h =
      let i : ℕ = n / 512 ^ l in
      let lt : i < 512 = slot_lt l n h in
      omega (
        arith,
        sum-le-at 512 (λ k. blocks v l (slot v t k) g) (λ k. weigh v l (slot v t k) g) i (g (leaf v l (slot v t i) (n % 512 ^ l))) lt
            (λ k j. blocks-le g l (slot v t k)) (leaf-le g l (slot v t i) (n % 512 ^ l) (mod-lt n (pow_pos l))),
      )

  -- two pages at the bottom
  pub leaf-le₂ : (g : ℕ → ℕ) (l t n m : ℕ) → n < 512 ^ l → m < 512 ^ l → n ≢ m → g (leaf v l t n) + g (leaf v l t m) ≤ weigh v l t g
  unfolding weigh leaf
  leaf-le₂ g zero t n m h i ne = absurd (ne (lt-one h ∙ sym (lt-one i)))
  leaf-le₂ g (suc l) t n m h i ne =
      let W : ℕ → ℕ = λ k. weigh v l (slot v t k) g in
      let a : ℕ = n / 512 ^ l in let b : ℕ = m / 512 ^ l in
      let la : n % 512 ^ l < 512 ^ l = mod-lt n (pow_pos l) in let lb : m % 512 ^ l < 512 ^ l = mod-lt m (pow_pos l) in
      elim (ℕ_discrete a b) [
        | no d ↦ omega (arith, sum-at₂ 512 W a b (slot_lt l n h) (slot_lt l m i) d, leaf-le g l (slot v t a) (n % 512 ^ l) la, leaf-le g l (slot v t b) (m % 512 ^ l) lb)
        | yes e ↦
            let d : n % 512 ^ l ≢ m % 512 ^ l = λ q. ne (sym (div-add-mod' n (512 ^ l)) ∙ ap₂ (λ (x y : ℕ). x * 512 ^ l + y) e q ∙ div-add-mod' m (512 ^ l)) in
            let r : g (leaf v l (slot v t a) (n % 512 ^ l)) + g (leaf v l (slot v t b) (m % 512 ^ l)) ≤ W a =
            subst (λ (x : ℕ). g (leaf v l (slot v t a) (n % 512 ^ l)) + g (leaf v l (slot v t x) (m % 512 ^ l)) ≤ W a) e
            (leaf-le₂ g l (slot v t a) (n % 512 ^ l) (m % 512 ^ l) la lb d) in
            omega (arith, r, sum-at 512 W a (slot_lt l n h))
      ]

  pub leaf-below : (P l t n : ℕ) → n < 512 ^ l → Below v P l t → leaf v l t n < P
  unfolding leaf Below
  leaf-below P zero t n h b = b
  leaf-below P (suc l) t n h b = leaf-below P l (slot v t (n / 512 ^ l)) (n % 512 ^ l) (mod-lt n (pow_pos l)) (b.1 (n / 512 ^ l) (slot_lt l n h))

module _ (v v' : Vol) (C : ℕ → ℕ) (same : Agree C v v') where
  slots : (l t : ℕ) → blocks v (suc l) t C ≡ 0 → (k : ℕ) → slot v' t k ≡ slot v t k
  unfolding Agree blocks
  slots l t h k = slot_same v v' t (same t (omega (arith, h))) k

  below : (l t : ℕ) → blocks v (suc l) t C ≡ 0 → (k : ℕ) → k < 512 → blocks v l (slot v t k) C ≡ 0
  unfolding blocks
  below l t h k i = sum-at-zero 512 (λ k. blocks v l (slot v t k) C) (omega (arith, h)) k i

  pub weigh-frame : (l t : ℕ) → blocks v l t C ≡ 0 → (g : ℕ → ℕ) → weigh v' l t g ≡ weigh v l t g
  unfolding weigh
  weigh-frame zero t h g = refl
  weigh-frame (suc l) t h g =
      ap (λ (s : ℕ). g t + s) (sum-ext 512 (λ k. weigh v' l (slot v' t k) g) (λ k. weigh v l (slot v t k) g)
      (λ k i. ap (λ (x : ℕ). weigh v' l x g) (slots l t h k) ∙ weigh-frame l (slot v t k) (below l t h k i) g))

  pub blocks-frame : (l t : ℕ) → blocks v l t C ≡ 0 → (g : ℕ → ℕ) → blocks v' l t g ≡ blocks v l t g
  unfolding blocks
  blocks-frame zero t h g = refl
  blocks-frame (suc l) t h g =
      ap (λ (s : ℕ). g t + s) (sum-ext 512 (λ k. blocks v' l (slot v' t k) g) (λ k. blocks v l (slot v t k) g)
      (λ k i. ap (λ (x : ℕ). blocks v' l x g) (slots l t h k) ∙ blocks-frame l (slot v t k) (below l t h k i) g))

  pub leaf-frame : (l t : ℕ) → blocks v l t C ≡ 0 → (n : ℕ) → n < 512 ^ l → leaf v' l t n ≡ leaf v l t n
  unfolding leaf
  leaf-frame zero t h n i = refl
  leaf-frame (suc l) t h n i =
      ap (λ (x : ℕ). leaf v' l x (n % 512 ^ l)) (slots l t h (n / 512 ^ l))
      ∙ leaf-frame l (slot v t (n / 512 ^ l)) (below l t h (n / 512 ^ l) (slot_lt l n i)) (n % 512 ^ l) (mod-lt n (pow_pos l))

  pub Below-frame : (P l t : ℕ) → blocks v l t C ≡ 0 → Below v P l t → Below v' P l t
  unfolding Below
  Below-frame P zero t h b = b
  Below-frame P (suc l) t h b = (b.0, λ k i. subst (λ (x : ℕ). Below v' P l x) (sym (slots l t h k)) (Below-frame P l (slot v t k) (below l t h k i) (b.1 k i)))

  pub Fill-frame : (l t n : ℕ) → blocks v l t C ≡ 0 → Fill v l t n → Fill v' l t n
  unfolding Fill
  Fill-frame zero t n h b = b
  Fill-frame (suc l) t n h b = (b.0, b.1, λ k i. subst (λ (x : ℕ). Fill v' l x (min (n - k * 512 ^ l) (512 ^ l))) (sym (slots l t h k)) (Fill-frame l (slot v t k) _ (below l t h k i) (b.2 k i)))

-- ---- a page d with no pointers is put into the empty slot k of page X: once for each time that X is a block of the tree

pub record Link (v v' : Vol) (X k d : ℕ) : Type 0 where
  pub rest : (q : ℕ) → q ≢ X → (j : ℕ) → word v' q j ≡ word v q j
  pub room : k < 512
  pub was : slot v X k ≡ 0
  pub now : slot v' X k ≡ d
  pub others : (j : ℕ) → j ≢ k → slot v' X j ≡ slot v X j
  pub bare : (j : ℕ) → j < 512 → slot v' d j ≡ 0
  pub real : 0 < X

module _ (v v' : Vol) (X k d : ℕ) (L : Link v v' X k d) (g : ℕ → ℕ) (g0 : g 0 ≡ 0) where
  pub weigh-link : (l t : ℕ) → weigh v' l t g ≡ weigh v l t g + blocks v l t (hit X) * g d
  unfolding weigh blocks
  weigh-link zero t = omega arith
  weigh-link (suc l) t =
      let G : ℕ → ℕ = λ j. weigh v l (slot v t j) g in
      let B : ℕ → ℕ = λ j. blocks v l (slot v t j) (hit X) in
      let F : ℕ → ℕ = λ j. weigh v' l (slot v' t j) g in
      let M : ℕ → ℕ = λ j. weigh v' l (slot v t j) g in
      let mid : sum 512 M ≡ sum 512 G + sum 512 B * g d =
      sum-ext 512 M (λ j. G j + B j * g d) (λ j h. weigh-link l (slot v t j))
      ∙ sum-add 512 G (λ j. B j * g d) ∙ ap (λ (s : ℕ). sum 512 G + s) (sum-mul 512 B (g d)) in
      elim (ℕ_discrete t X) [
        | no ne ↦
            let h : hit X t * g d ≡ 0 * g d = ap (λ (x : ℕ). x * g d) (hit_other X t ne) in
            let s : sum 512 F ≡ sum 512 M = sum-ext 512 F M (λ j i. ap (λ (x : ℕ). weigh v' l x g) (slot_same v v' t (L.rest t ne) j)) in
            omega (arith, mid, h, s)
        | yes e ↦
            let h : hit X t * g d ≡ 1 * g d = ap (λ (x : ℕ). x * g d) (subst (λ (x : ℕ). hit X x ≡ 1) (sym e) (hit_same X L.real)) in
            let at : F k ≡ g d = ap (λ (x : ℕ). weigh v' l (slot v' x k) g) e ∙ ap (λ (x : ℕ). weigh v' l x g) L.now ∙ weigh-empty v' g g0 l d L.bare in
            let no : M k ≡ 0 = ap (λ (x : ℕ). weigh v' l (slot v x k) g) e ∙ ap (λ (x : ℕ). weigh v' l x g) L.was ∙ weigh-none v' g g0 l in
            let s : sum 512 F + M k ≡ sum 512 M + F k =
            sum-change 512 M F k L.room (λ j i ne. ap (λ (x : ℕ). weigh v' l x g)
            (subst (λ (x : ℕ). slot v' x j ≡ slot v x j) (sym e) (L.others j ne))) in
            omega (arith, mid, h, s, at, no)
      ]

pub leaf-zero : (v : Vol) (l n : ℕ) → leaf v l 0 n ≡ 0
unfolding leaf
leaf-zero v zero n = refl
leaf-zero v (suc l) n = ap (λ (x : ℕ). leaf v l x (n % 512 ^ l)) (slot-zero v (n / 512 ^ l)) ∙ leaf-zero v l (n % 512 ^ l)

pub weigh-nobody : (v : Vol) (g : ℕ → ℕ) → ((x : ℕ) → g x ≡ 0) → (l t : ℕ) → weigh v l t g ≡ 0
unfolding weigh
weigh-nobody v g h zero t = h t
weigh-nobody v g h (suc l) t = omega (arith, h t, sum-none 512 (λ k. weigh v l (slot v t k) g) (λ k i. weigh-nobody v g h l (slot v t k)))

-- ---- two weights

pub weigh-add : (v : Vol) (g h : ℕ → ℕ) (l t : ℕ) → weigh v l t (λ x. g x + h x) ≡ weigh v l t g + weigh v l t h
unfolding weigh
weigh-add v g h zero t = refl
weigh-add v g h (suc l) t =
    omega (
      arith,
      sum-ext 512 (λ k. weigh v l (slot v t k) (λ x. g x + h x)) (λ k. weigh v l (slot v t k) g + weigh v l (slot v t k) h) (λ k i. weigh-add v g h l (slot v t k)),
      sum-add 512 (λ k. weigh v l (slot v t k) g) (λ k. weigh v l (slot v t k) h),
    )

pub blocks-add : (v : Vol) (g h : ℕ → ℕ) (l t : ℕ) → blocks v l t (λ x. g x + h x) ≡ blocks v l t g + blocks v l t h
unfolding blocks
blocks-add v g h zero t = refl
blocks-add v g h (suc l) t =
    omega (
      arith,
      sum-ext 512 (λ k. blocks v l (slot v t k) (λ x. g x + h x)) (λ k. blocks v l (slot v t k) g + blocks v l (slot v t k) h) (λ k i. blocks-add v g h l (slot v t k)),
      sum-add 512 (λ k. blocks v l (slot v t k) g) (λ k. blocks v l (slot v t k) h),
    )

-- ---- a full tree has as many pages

pub full-count : (v : Vol) (l t : ℕ) → Fill v l t (512 ^ l) → 512 ^ l ≤ weigh v l t some
unfolding Fill weigh
full-count v zero t h = omega (arith, some-pos t (h.0 (omega arith)))
full-count v (suc l) t h =
    let L : ℕ = 512 ^ l in
    let s : 512 ^ suc l ≡ 512 * L = pow-suc 512 l ∙ mul_comm (512 ^ l) 512 in
    let each : (k : ℕ) → k < 512 → L ≤ weigh v l (slot v t k) some = λ k i.
    full-count v l (slot v t k) (subst (λ (x : ℕ). Fill v l (slot v t k) x) (let q : min (512 ^ suc l - k * L) L ≡ L = omega (arith, s, mul-le-mul_right L i) in q) (h.2 k i)) in
    omega (arith, s, sum-le 512 (λ k. L) (λ k. weigh v l (slot v t k) some) each, sum-const 512 L)

pub fill-zero : (v : Vol) (l : ℕ) → Fill v l 0 0
unfolding Fill
fill-zero v zero = ((λ h. absurd (not-suc-le-zero h)), λ h. refl)
fill-zero v (suc l) = (
  (λ h. absurd (not-suc-le-zero h)),
  (λ h. refl),
  λ k i. subst₂ (λ (x y : ℕ). Fill v l x y) (sym (slot-zero v k)) (let e : 0 ≡ min (0 - k * 512 ^ l) (512 ^ l) = omega arith in e) (fill-zero v l),
)

pub below-zero : (v : Vol) (P l : ℕ) → 0 < P → Below v P l 0
unfolding Below
below-zero v P zero h = h
below-zero v P (suc l) h = (h, λ k i. subst (λ (x : ℕ). Below v P l x) (sym (slot-zero v k)) (below-zero v P l h))

-- the pages of r are below P
unfoldable pub BelowR : Vol → ℕ → Root → Type 0
BelowR v P (tree l t) = Below v P l t
BelowR v P (run s n) = s + n ≤ P
