-- The pages of a tree by depth and place: to count a page is to find it there. Assumes nothing.
use Rattle.std.specs.Prelude.{◌≡◌, ◌≢◌}
use Rattle.std.proofs.Math.Path.{refl, sym, ap, ap₂, subst}
use Rattle.std.proofs.Common.{◌∙◌, not-suc-le-zero, le_of_suc-le-suc, pow-suc}
use Prim.Native.Nat.{ℕ, zero, suc, ◌+◌, ◌*◌, ◌/◌, ◌%◌, ◌^◌, ◌≤◌, ◌<◌, zero-le}
use Rattle.std.proofs.Math.Nat.{le_refl, mod-lt, div-add-mod'}
use Rattle.std.proofs.Math.Decide.{ℕ_discrete, dec_lt}
use native.Mathlib.Omega.{arith}
use Rattle.std.proofs.Math.Arith.{lt-one, digits_div, digits_mod, digits_lt}
use Rattle.sums.specs.Sum.{sum-at, sum-at₂, sum-find}
use Rattle.book.specs.Holders.{hit}
use Rattle.book.specs.Pointers.{slot}
use Rattle.book.specs.Trees.{weigh, leaf}
use Rattle.book.specs.Words.{Vol}
use Rattle.laws.specs.Count.Sums.{Twice, apart, within, sum-find₂}
use Rattle.laws.specs.Tree.Slot.{hit_same, hit-le, hit-eq}
use Rattle.laws.specs.Tree.Weigh.{pow_pos, slot_lt}

-- a page at depth j and place n below t, for j up to the level: its weight is in the tree's
module _ (v : Vol) (g : ℕ → ℕ) where
  pub node-le : (l j t n : ℕ) → j ≤ l → n < 512 ^ j → g (leaf v j t n) ≤ weigh v l t g
  unfolding leaf weigh
  node-le zero zero t n h i = le_refl (g t)
  node-le zero (suc j) t n h i = absurd (not-suc-le-zero h)
  node-le (suc l) zero t n h i = omega arith
  node-le (suc l) (suc j) t n h i =
      let a : ℕ = n / 512 ^ j in
      omega (arith, node-le l j (slot v t a) (n % 512 ^ j) (le_of_suc-le-suc h) (mod-lt n (pow_pos j)), sum-at 512 (λ k. weigh v l (slot v t k) g) a (slot_lt j n i))

  -- and those of two pages are
  pub node-le₂ : (l j j' t n n' : ℕ) → j ≤ l → j' ≤ l → n < 512 ^ j → n' < 512 ^ j' → ((j ≡ j') → (n ≡ n') → ⊥) → g (leaf v j t n) + g (leaf v j' t n') ≤ weigh v l t g
  unfolding leaf weigh
  node-le₂ l zero zero t n n' h h' i i' ne = absurd (ne refl (lt-one i ∙ sym (lt-one i')))
  node-le₂ zero zero (suc j') t n n' h h' i i' ne = absurd (not-suc-le-zero h')
  node-le₂ zero (suc j) zero t n n' h h' i i' ne = absurd (not-suc-le-zero h)
  node-le₂ zero (suc j) (suc j') t n n' h h' i i' ne = absurd (not-suc-le-zero h)
  node-le₂ (suc l) zero (suc j) t n n' h h' i i' ne =
      let b : ℕ = n' / 512 ^ j in
      omega (arith, node-le l j (slot v t b) (n' % 512 ^ j) (le_of_suc-le-suc h') (mod-lt n' (pow_pos j)), sum-at 512 (λ k. weigh v l (slot v t k) g) b (slot_lt j n' i'))
  node-le₂ (suc l) (suc j) zero t n n' h h' i i' ne =
      let a : ℕ = n / 512 ^ j in
      omega (arith, node-le l j (slot v t a) (n % 512 ^ j) (le_of_suc-le-suc h) (mod-lt n (pow_pos j)), sum-at 512 (λ k. weigh v l (slot v t k) g) a (slot_lt j n i))
  node-le₂ (suc l) (suc j) (suc j') t n n' h h' i i' ne =
      let W : ℕ → ℕ = λ k. weigh v l (slot v t k) g in
      let a : ℕ = n / 512 ^ j in let b : ℕ = n' / 512 ^ j' in
      let ma : n % 512 ^ j < 512 ^ j = mod-lt n (pow_pos j) in let mb : n' % 512 ^ j' < 512 ^ j' = mod-lt n' (pow_pos j') in
      elim (ℕ_discrete a b) [
        | no d ↦ omega (
          arith,
          sum-at₂ 512 W a b (slot_lt j n i) (slot_lt j' n' i') d,
          node-le l j (slot v t a) (n % 512 ^ j) (le_of_suc-le-suc h) ma,
          node-le l j' (slot v t b) (n' % 512 ^ j') (le_of_suc-le-suc h') mb,
        )
        | yes e ↦
            let d : j ≡ j' → n % 512 ^ j ≡ n' % 512 ^ j' → ⊥ = λ q r. ne (ap suc q)
            (sym (div-add-mod' n (512 ^ j)) ∙ ap₂ (λ (x y : ℕ). x + y) (ap₂ (λ (x y : ℕ). x * 512 ^ y) e q) r ∙ div-add-mod' n' (512 ^ j')) in
            let r : g (leaf v j (slot v t a) (n % 512 ^ j)) + g (leaf v j' (slot v t b) (n' % 512 ^ j')) ≤ W a =
            subst (λ (x : ℕ). g (leaf v j (slot v t a) (n % 512 ^ j)) + g (leaf v j' (slot v t x) (n' % 512 ^ j')) ≤ W a) e
            (node-le₂ l j j' (slot v t a) (n % 512 ^ j) (n' % 512 ^ j') (le_of_suc-le-suc h) (le_of_suc-le-suc h') ma mb d) in
            omega (arith, r, sum-at 512 W a (slot_lt j n i))
      ]

-- one level deeper: pointer k of the block at place n
pub down_lt : (j n k : ℕ) → n < 512 ^ j → k < 512 → 512 * n + k < 512 ^ suc j
down_lt j n k h i = subst (λ (x : ℕ). 512 * n + k < x) (sym (pow-suc 512 j)) (omega arith)

pub leaf-down : (v : Vol) (j t n k : ℕ) → n < 512 ^ j → k < 512 → leaf v (suc j) t (512 * n + k) ≡ slot v (leaf v j t n) k
unfolding leaf
leaf-down v zero t n k h i = let z = lt-one h in ap (slot v t) (omega arith)
leaf-down v (suc j) t n k h i =
    let q : ℕ = n / 512 ^ j in let r : ℕ = n % 512 ^ j in
    let lt : r < 512 ^ j = mod-lt n (pow_pos j) in
    let e : 512 * n + k ≡ q * 512 ^ suc j + (512 * r + k) = omega (arith, div-add-mod' n (512 ^ j), ap (λ (x : ℕ). q * x) (pow-suc 512 j)) in
    let room : 512 * r + k < 512 ^ suc j = down_lt j r k lt i in
    ap₂ (λ (x y : ℕ). leaf v (suc j) (slot v t x) y) (ap (λ (x : ℕ). x / 512 ^ suc j) e ∙ digits_div q room) (ap (λ (x : ℕ). x % 512 ^ suc j) e ∙ digits_mod q room)
    ∙ leaf-down v j (slot v t q) r k lt i

-- ---- where page p is in the tree of level l at t

pub record Node (v : Vol) (p l t : ℕ) : Type 0 where
  pub depth : ℕ
  pub place : ℕ
  pub deep : depth ≤ l
  pub room : place < 512 ^ depth
  pub here : leaf v depth t place ≡ p

abbrev pub Differ : {v : Vol} {p l t : ℕ} → Node v p l t → Node v p l t → Type 0
Differ a b = a.depth ≡ b.depth → a.place ≡ b.place → ⊥

pub node-pos : (v : Vol) (p l t : ℕ) → 0 < p → Node v p l t → 0 < weigh v l t (hit p)
node-pos v p l t pos a = omega (arith, node-le v (hit p) l a.depth t a.place a.deep a.room, ap (hit p) a.here, hit_same p pos)

-- a page that is counted at most once has one node
pub node-one : (v : Vol) (p l t : ℕ) → 0 < p → weigh v l t (hit p) ≤ 1 → (a b : Node v p l t) → (a.depth ≡ b.depth) × (a.place ≡ b.place)
node-one v p l t pos le a b = elim (ℕ_discrete a.depth b.depth) [
  | yes e ↦ elim (ℕ_discrete a.place b.place) [
    | yes i ↦ (e, i)
    | no ne ↦ absurd (two (λ q i. ne i))
  ]
  | no ne ↦ absurd (two (λ q i. ne q))
]
  where
    two : Differ a b → ⊥
    two d = omega (
      arith,
      node-le₂ v (hit p) l a.depth b.depth t a.place b.place a.deep b.deep a.room b.room d,
      ap (hit p) a.here,
      ap (hit p) b.here,
      hit_same p pos,
    )

module _ (v : Vol) (p : ℕ) where
  top : (l t : ℕ) → 0 < hit p t → Node v p l t
  unfolding leaf
  top l t h = record { depth = 0; place = 0; deep = zero-le; room = le_refl 1; here = hit-eq p t h }

  -- a page below slot k
  under : (l t k : ℕ) → k < 512 → Node v p l (slot v t k) → Node v p (suc l) t
  unfolding leaf
  under l t k h a = record {
    depth = suc a.depth;
    place = k * 512 ^ a.depth + a.place;
    deep = omega arith;
    room = subst (λ (x : ℕ). k * 512 ^ a.depth + a.place < x) (sym (pow-suc 512 a.depth ∙ omega arith)) (digits_lt h a.room);
    here = ap₂ (λ (x y : ℕ). leaf v a.depth (slot v t x) y) (digits_div k a.room) (digits_mod k a.room) ∙ a.here;
  }

  -- a page that is counted has a node, and one that is counted twice has two
  pub node-find : (l t : ℕ) → 0 < weigh v l t (hit p) → Node v p l t
  unfolding weigh
  node-find zero t h = top 0 t h
  node-find (suc l) t h = elim (dec_lt 0 (hit p t)) [
    | yes q ↦ top (suc l) t q
    | no q ↦
        let s = sum-find 512 (λ k. weigh v l (slot v t k) (hit p)) (omega arith) in
        under l t s.0 s.1 (node-find l (slot v t s.0) s.2)
  ]

  -- different nodes below one slot, below two, and at the top and below
  same-slot : (l t k : ℕ) (h : k < 512) (a b : Node v p l (slot v t k)) → Differ a b → Differ (under l t k h a) (under l t k h b)
  unfolding under
  same-slot l t k h a b d e i = let q : a.depth ≡ b.depth = omega arith in d q (omega (arith, ap (λ (x : ℕ). k * 512 ^ x) q))

  two-slots : (l t k j : ℕ) (h : k < 512) (i : j < 512) (a : Node v p l (slot v t k)) (b : Node v p l (slot v t j)) → k ≢ j → Differ (under l t k h a) (under l t j i b)
  unfolding under
  two-slots l t k j h i a b ne e q =
      let d : a.depth ≡ b.depth = omega arith in
      ne (sym (digits_div k a.room) ∙ ap₂ (λ (x y : ℕ). x / 512 ^ y) q d ∙ digits_div j b.room)

  above : (l t k : ℕ) (q : 0 < hit p t) (h : k < 512) (a : Node v p l (slot v t k)) → Differ (top (suc l) t q) (under l t k h a)
  unfolding top under
  above l t k q h a e i = omega arith

  pub node-find₂ : (l t : ℕ) → 2 ≤ weigh v l t (hit p) → (a : Node v p l t) × (b : Node v p l t) × Differ a b
  unfolding weigh
  node-find₂ zero t h = absurd (omega (arith, h, hit-le p t))
  node-find₂ (suc l) t h = elim (dec_lt 0 (hit p t)) [
    | yes q ↦
        let s = sum-find 512 (λ k. weigh v l (slot v t k) (hit p)) (omega (arith, hit-le p t)) in
        let a = node-find l (slot v t s.0) s.2 in
        (top (suc l) t q, under l t s.0 s.1 a, above l t s.0 q s.1 a)
    | no q ↦ go (λ k. node-find₂ l (slot v t k)) (sum-find₂ 512 (λ k. weigh v l (slot v t k) (hit p)) (omega arith))
  ]
    where
      go : ((k : ℕ) → 2 ≤ weigh v l (slot v t k) (hit p) → (a : Node v p l (slot v t k)) × (b : Node v p l (slot v t k)) × Differ a b)
          → Twice 512 (λ k. weigh v l (slot v t k) (hit p)) → (a : Node v p (suc l) t) × (b : Node v p (suc l) t) × Differ a b
      go again (apart k j hk hj ne pk pj) =
          let a = node-find l (slot v t k) pk in let b = node-find l (slot v t j) pj in
          (under l t k hk a, under l t j hj b, two-slots l t k j hk hj a b ne)
      go again (within k hk pk) =
          let r = again k pk in
          (under l t k hk r.0, under l t k hk r.1, same-slot l t k hk r.0 r.1 r.2)
