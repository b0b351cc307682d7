-- The memories of full index blocks and of subindex blocks. Assumes nothing.
use mathlib.Core.Path.{◌≡◌, sym, ap, ◌∙◌, subst}
use mathlib.Core.Bool.{Bool, true, false, not}
use mathlib.Core.List.{List}
use Prim.Native.Nat.{ℕ, zero, suc, ◌-◌, ◌*◌, ◌/◌, ◌%◌, ◌^◌, ◌≤◌, ◌<◌, min}
use native.Mathlib.Nat.{mod-lt, div-add-mod'}
use native.Mathlib.Decide.{ℕ_discrete, dec_lt}
use native.Mathlib.Omega.{arith}
use lib.Dec.{eqb}
use lib.ListN.{length}
use borrow.Author.Tests.{not-false}
use Rattle.sums.specs.Sum.{is-other}
use Rattle.book.specs.Decides.{Decides, holds, fails}
use Rattle.book.specs.Files.{Shape, Subindexed}
use Rattle.book.specs.Image.{pages}
use Rattle.book.specs.Pointers.{slot}
use Rattle.book.specs.Trees.{Fill, leaf, page_at, root_by}
use Rattle.book.specs.Words.{Vol, vol}
use Rattle.laws.specs.Frame.Roots.{upto-in}
use Rattle.laws.specs.Tree.Levels.{page-none}
use Rattle.laws.specs.Tree.Weigh.{pow_pos, slot_lt, BelowR}
use Rattle.page.proofs.Deciding.{decides-iff, decides_eq, never, told}
use Rattle.bits.specs.Marks.{marked, Unmarked, Newly, Marking}
use Rattle.bits.proofs.Marked.{marking-old}
use Rattle.shape.specs.Seen.{Known, Subindex, Rooted, Recalled, Tested}
use Rattle.shape.specs.Shapes.{Filled}
use Rattle.tree.specs.Reach.{Reach}
use Rattle.shape.proofs.Blocks.{filled-top}

-- ---- what is known

-- where A holds of all marked pages and of b, it holds of all that are marked after b is
module _ (A : ℕ → Type 0) (m : List ℕ) (b : ℕ) (all : (p : ℕ) → marked m p ≡ 1 → A p) (f : A b) (after : List ℕ) where
  newly-all : Newly m b after → (p : ℕ) → marked after p ≡ 1 → A p
  newly-all d p q = elim (ℕ_discrete p b) [
    | yes e ↦ subst A (sym e) f
    | no ne ↦ all p (omega (arith, d.more p, is-other b p (λ e. ne (sym e)), q))
  ]

  marking-all : (r : Bool) → Marking m b after r → (p : ℕ) → marked after p ≡ 1 → A p
  marking-all true d = newly-all d
  marking-all false d = subst (λ (x : List ℕ). (p : ℕ) → marked x p ≡ 1 → A p) (sym d.1) all

none-marked : (A : ℕ → Type 0) (P : ℕ) (m : List ℕ) → Unmarked P m → (p : ℕ) → marked m p ≡ 1 → A p
none-marked A P m u p q = absurd (let z : ⊥ = omega (arith, u.none p, q) in z)

marking-size : (m : List ℕ) (b : ℕ) (after : List ℕ) (r : Bool) → Marking m b after r → length after ≡ length m
marking-size m b after true d = d.kept
marking-size m b after false d = ap length d.1

module _ (img : List ℕ) where
  pub recalled-none : (P : ℕ) → pages img ≤ P → (seen trees : List ℕ) → Unmarked P seen → Unmarked P trees → Recalled img seen trees
  recalled-none P h seen trees s t = record {
    known = record { room = omega (arith, h, s.room); full = none-marked (λ b. Filled (pages img) (vol img) 1 b 512) P seen s };
    rooted = record { room = omega (arith, h, t.room); root = none-marked (Subindex img) P trees t };
  }

  -- a page that is found full may be marked, and one with a right tree under it
  known_more : (seen : List ℕ) (b : ℕ) → Known img seen → Filled (pages img) (vol img) 1 b 512 → (after : List ℕ) (r : Bool) → Marking seen b after r → Known img after
  known_more seen b k f after r d =
      record { room = omega (arith, marking-size seen b after r d, k.room); full = marking-all (λ p. Filled (pages img) (vol img) 1 p 512) seen b k.full f after r d }

  rooted_more : (trees : List ℕ) (t : ℕ) → Rooted img trees → Subindex img t → (after : List ℕ) (r : Bool) → Marking trees t after r → Rooted img after
  rooted_more trees t k f after r d = record { room = omega (arith, marking-size trees t after r d, k.room); root = marking-all (Subindex img) trees t k.root f after r d }

-- ---- tests with a memory

module _ (A M : Type 0) where
  pub tested-no : (A → ⊥) → Tested A M false
  tested-no h = record { decides = h; kept = never }

  pub tested-yes : A → M → Tested A M true
  tested-yes a k = record { decides = a; kept = λ e. k }

  module _ (r : Bool) where
    -- the memory is right whatever is answered
    pub tested-by : Decides r A → M → Tested A M r
    tested-by d k = record { decides = d; kept = λ e. k }

    -- after `if !test { return .. }`, and within it
    pub passed : Tested A M r → not r ≡ false → A × M
    passed d e = (holds r A d.decides e, d.kept (not-false r e))

    pub failed : Tested A M r → not r ≡ true → A → ⊥
    failed d e = fails r A d.decides e

    -- a test of one fact that decides another
    pub tested-as : (B : Type 0) → (Decides r A → Decides r B) → Tested A M r → Tested B M r
    tested-as B f d = record { decides = f d.decides; kept = d.kept }

    -- a test with one memory among others
    tested-among : (N : Type 0) → (A → M → N) → Tested A M r → Tested A N r
    tested-among N f d = record { decides = d.decides; kept = λ e. f (told r A d.decides e) (d.kept e) }

-- the memory of subindex blocks is not touched
pub tested-beside : (img : List ℕ) (A : Type 0) (seen trees : List ℕ) (r : Bool) → Rooted img trees → Tested A (Known img seen) r → Tested A (Recalled img seen trees) r
tested-beside img A seen trees r k = tested-among A (Known img seen) r (Recalled img seen trees) (λ a m. record { known = m; rooted = k })

-- a full index block, marked before it is read
module _ (img : List ℕ) (b n : ℕ) (full : n ≡ 512) (seen after : List ℕ) (s : Bool) (k : Known img seen) (d : Marking seen b after s) where
  abbrev Index : ℕ → Type 0
  Index m = Filled (pages img) (vol img) 1 b m

  pub once-old : not s ≡ true → Tested (Index n) (Known img after) true
  once-old e =
      let f : Index 512 = k.full b (marking-old seen b after s d e).0 in
      tested-yes (Index n) (Known img after) (subst Index (sym full) f) (known_more img seen b k f after s d)

  pub once-new : (r : Bool) → Decides r (Index n) → Tested (Index n) (Known img after) r
  once-new true f = tested-yes (Index n) (Known img after) f (known_more img seen b k (subst Index full f) after s d)
  once-new false f = tested-no (Index n) (Known img after) f

-- ---- a subindex block, marked before it is gone through

module _ (img : List ℕ) (t n : ℕ) (trees after : List ℕ) (s : Bool) (k : Rooted img trees) (d : Marking trees t after s) where
  abbrev Tops : Type 0
  Tops = Filled (pages img) (vol img) 2 t n

  pub root-old : not s ≡ true → Subindex img t
  root-old e = k.root t (marking-old trees t after s d e).0

  pub again-old : not s ≡ true → (seen : List ℕ) → Known img seen → (r : Bool) → Decides r Tops → Tested Tops (Recalled img seen after) r
  again-old e seen m r c =
      tested-by Tops (Recalled img seen after) r c (record { known = m; rooted = subst (Rooted img) (sym (marking-old trees t after s d e).1) k })

  pub again-new : 512 < n → n ≤ 262144 → (seen : List ℕ) (r : Bool) → Tested Tops (Known img seen) r → Tested Tops (Recalled img seen after) r
  again-new low most seen r = tested-among Tops (Known img seen) r (Recalled img seen after)
      (λ f m. record { known = m; rooted = rooted_more img trees t k (record { count = n; right = (low, most, f.0, f.1) }) after s d })

-- ---- the count of a right tree: its last position is there, and the next is not

leaf-some : (v : Vol) (l t n : ℕ) → Fill v l t n → (m : ℕ) → m < n → m < 512 ^ l → 0 < leaf v l t m
unfolding Fill leaf
leaf-some v zero t n F m h i = F.0 (omega arith)
leaf-some v (suc l) t n F m h i =
    let j : ℕ = m / 512 ^ l in
    leaf-some v l (slot v t j) (min (n - j * 512 ^ l) (512 ^ l)) (F.2 j (slot_lt l m i)) (m % 512 ^ l)
    (omega (arith, div-add-mod' m (512 ^ l), mod-lt m (pow_pos l))) (mod-lt m (pow_pos l))

module _ (P : ℕ) (v : Vol) (t n : ℕ) (s : Subindexed P v t n) (m : ℕ) where
  abbrev position : ℕ
  position = page_at v (root_by 2 t 0) m

  page-some : m < n → 0 < position
  unfolding root_by page_at
  page-some h = omega (arith, upto-in m 262144 (leaf v 2 t m) (omega (arith, s.1)), leaf-some v 2 t n s.2 m h (omega (arith, s.1)))

  page-past : n ≤ m → position ≡ 0
  unfolding root_by Shape
  page-past h = page-none P v 2 t n s m h

module _ (img : List ℕ) (t n : ℕ) (s : Subindex img t) (low : 512 < n) (most : n ≤ 262144) where
  abbrev P : ℕ
  P = pages img

  abbrev at : ℕ → ℕ
  at m = page_at (vol img) (root_by 2 t 0) m

  subindexed : Filled P (vol img) 2 t n → Subindexed P (vol img) t n
  subindexed f = (low, most, f.0, f.1)

  pub no_last : at (n - 1) ≡ 0 → Filled P (vol img) 2 t n → ⊥
  no_last z f = omega (arith, z, page-some P (vol img) t n (subindexed f) (n - 1) (omega arith))

  same_count : 0 < at (n - 1) → at n ≡ 0 → s.count ≡ n
  same_count h z = elim (dec_lt (n - 1) s.count) [
    | no l ↦ absurd (let b : ⊥ = omega (arith, h, page-past P (vol img) t s.count s.right (n - 1) (omega arith)) in b)
    | yes l ↦ elim (dec_lt n s.count) [
      | yes i ↦ absurd (let b : ⊥ = omega (arith, z, page-some P (vol img) t s.count s.right n i) in b)
      | no i ↦ omega arith
    ]
  ]

  pub decides-count : (q : ℕ) → q ≡ at n → 0 < at (n - 1) → Decides (eqb q 0) (Filled P (vol img) 2 t n)
  decides-count q e h = decides-iff (eqb q 0) _ _
      (λ z. subst (λ (m : ℕ). Filled P (vol img) 2 t m) (same_count h (sym e ∙ z)) (s.right.2, s.right.3))
      (λ f. e ∙ page-past P (vol img) t n (subindexed f) n (omega arith)) (decides_eq q 0)

-- all pages of the tree are in the image
pub reach-tree : (img : List ℕ) (t : ℕ) → Subindex img t → Reach img (root_by 2 t 0)
unfolding root_by BelowR
reach-tree img t s = record { some = omega (arith, (filled-top (pages img) (vol img) s.count (omega (arith, s.right.0)) 2 t (s.right.2, s.right.3)).1); below = s.right.3 }
