-- The pages of a class, by the flags x, the page t and the count m of a root: as the searches read them. Assumes nothing.
use mathlib.Core.Path.{◌≡◌, refl, ap, ◌∙◌, subst}
use mathlib.Core.List.{List}
use Prim.Native.Nat.{ℕ, zero, suc, ◌+◌, ◌/◌, ◌%◌, ◌≤◌, ◌<◌}
use native.Mathlib.Nat.{mul-zero}
use native.Mathlib.Omega.{arith}
use Rattle.std.proofs.Common.{Option}
use Rattle.book.specs.Words.{Vol, vol}
use Rattle.book.specs.Pointers.{slot}
use Rattle.book.specs.Trees.{Root, tree, run, root_by, leaf, upto, page_at, index_at, subindex_of}
use Rattle.laws.specs.Frame.Roots.{upto-out}
use Rattle.laws.specs.Tree.Positions.{root-two, root-bad, slots-two}
use Rattle.laws.specs.Tree.Roles.{Shallow, upto-pos}
use Rattle.laws.specs.Tree.Weigh.{BelowR}
use Rattle.book.specs.Image.{pages}
use Rattle.tree.specs.Reach.{Reach}
use Rattle.who.specs.Least.{Least}
use Rattle.who.specs.Turns.{positions, class_page}

upto_zero : (n m : ℕ) → upto n m 0 ≡ 0
unfolding upto
upto_zero n m = mul-zero _

-- the root of flags 2, whose blocks are in the image
pub by_two : (x t m : ℕ) → x ≡ 2 → root_by x t m ≡ tree 2 t
unfolding root_by
by_two x t m e = ap (λ (y : ℕ). root_by y t m) e

-- a run's pointer with no pages, and one whose count is not asked for
pub by-run : (x t m : ℕ) → x ≡ 0 → root_by x t m ≡ run t m
unfolding root_by
by-run x t m e = ap (λ (y : ℕ). root_by y t m) e

pub by_count : (x t m n : ℕ) → (x ≡ 0 → ⊥) → root_by x t m ≡ root_by x t n
unfolding root_by
by_count zero t m n h = absurd (h refl)
by_count (suc zero) t m n h = refl
by_count (suc (suc zero)) t m n h = refl
by_count (suc (suc (suc x))) t m n h = refl

pub two-below : (img : List ℕ) (t k : ℕ) → Reach img (tree 2 t) → k < 512 → (t < pages img) × (slot (vol img) t k < pages img)
unfolding root_by
two-below img t k d h = let c = slots-two (vol img) (pages img) 2 t 0 d.below refl k 0 h (omega arith) in (c.0, c.1)

module _ (v : Vol) (x t m c n : ℕ) where
  kind : (y : ℕ) → x ≡ y → class_page v (root_by x t m) c n ≡ class_page v (root_by y t m) c n
  kind y e = ap (λ (z : ℕ). class_page v (root_by z t m) c n) e

module _ (v : Vol) (x t m n : ℕ) where
  -- the subindex block
  pub sub-two : x ≡ 2 → class_page v (root_by x t m) 0 n ≡ upto n 1 t
  unfolding class_page root_by subindex_of
  sub-two e = kind v x t m 0 n 2 e

  pub sub-other : (x ≡ 2 → ⊥) → class_page v (root_by x t m) 0 n ≡ 0
  unfolding class_page root_by subindex_of
  sub-other h = go x h
    where
      go : (y : ℕ) → (y ≡ 2 → ⊥) → class_page v (root_by y t m) 0 n ≡ 0
      go zero h = upto_zero n 1
      go (suc zero) h = upto_zero n 1
      go (suc (suc zero)) h = absurd (h refl)
      go (suc (suc (suc y))) h = upto_zero n 1

  -- index blocks
  pub index-one : x ≡ 1 → class_page v (root_by x t m) 1 n ≡ upto n 1 t
  unfolding class_page root_by index_at leaf
  index-one e = kind v x t m 1 n 1 e

  pub index-two : x ≡ 2 → class_page v (root_by x t m) 1 n ≡ upto n 512 (slot v t n)
  unfolding class_page root_by index_at leaf
  index-two e = let q : n / 1 ≡ n = omega arith in kind v x t m 1 n 2 e ∙ ap (λ (k : ℕ). upto n 512 (slot v t k)) q

  pub index-other : (x ≡ 1 → ⊥) → (x ≡ 2 → ⊥) → class_page v (root_by x t m) 1 n ≡ 0
  unfolding class_page root_by index_at
  index-other h i = go x h i
    where
      go : (y : ℕ) → (y ≡ 1 → ⊥) → (y ≡ 2 → ⊥) → class_page v (root_by y t m) 1 n ≡ 0
      go zero h i = refl
      go (suc zero) h i = absurd (h refl)
      go (suc (suc zero)) h i = absurd (i refl)
      go (suc (suc (suc y))) h i = refl

  -- data pages
  pub data-run : x ≡ 0 → class_page v (root_by x t m) 2 n ≡ upto n m (t + n)
  unfolding class_page root_by page_at
  data-run e = kind v x t m 2 n 0 e

  pub data-one : x ≡ 1 → class_page v (root_by x t m) 2 n ≡ upto n 512 (slot v t n)
  unfolding class_page root_by page_at leaf
  data-one e = let q : n / 1 ≡ n = omega arith in kind v x t m 2 n 1 e ∙ ap (λ (k : ℕ). upto n 512 (slot v t k)) q

  pub data-two : x ≡ 2 → n < 262144 → class_page v (root_by x t m) 2 n ≡ slot v (slot v t (n / 512)) (n % 512)
  unfolding class_page
  data-two e h = root-two v x t m n e h

  pub data-other : 2 < x → class_page v (root_by x t m) 2 n ≡ 0
  unfolding class_page
  data-other h = root-bad v x t m n h

-- ---- an empty run has none

pub class-none : (v : Vol) (r : Root) (t c n : ℕ) → r ≡ run t 0 → class_page v r c n ≡ 0
unfolding class_page subindex_of index_at page_at
class-none v r t c n e = ap (λ (s : Root). class_page v s c n) e ∙ go c
  where
    go : (c : ℕ) → class_page v (run t 0) c n ≡ 0
    go zero = upto_zero n 1
    go (suc zero) = refl
    go (suc (suc c)) = upto-out n 0 (t + n) (omega arith)

-- ---- no position is past 262,144

module _ (v : Vol) (P p : ℕ) (few : P ≤ positions) (pos : 0 < p) where
  pub class-below : (r : Root) → Shallow r → BelowR v P r → (c n : ℕ) → class_page v r c n ≡ p → n < positions
  unfolding class_page subindex_of index_at page_at BelowR Shallow
  class-below r sh b zero n e = omega (arith, (upto-pos n 1 (subindex_of r) p pos e).0)
  class-below (tree zero t) sh b (suc zero) n e = absurd (omega arith)
  class-below (tree (suc zero) t) sh b (suc zero) n e = omega (arith, (upto-pos n 1 _ p pos e).0)
  class-below (tree (suc (suc zero)) t) sh b (suc zero) n e = omega (arith, (upto-pos n 512 _ p pos e).0)
  class-below (tree (suc (suc (suc l))) t) sh b (suc zero) n e = absurd (let z : ⊥ = omega (arith, sh.1) in z)
  class-below (run s m) sh b (suc zero) n e = absurd (let z : ⊥ = omega (arith, e) in z)
  class-below (tree zero t) sh b (suc (suc c)) n e = absurd (let z : ⊥ = omega (arith, sh.0) in z)
  class-below (tree (suc zero) t) sh b (suc (suc c)) n e = omega (arith, (upto-pos n 512 _ p pos e).0)
  class-below (tree (suc (suc zero)) t) sh b (suc (suc c)) n e = omega (arith, (upto-pos n 262144 _ p pos e).0)
  class-below (tree (suc (suc (suc l))) t) sh b (suc (suc c)) n e = absurd (let z : ⊥ = omega (arith, sh.1) in z)
  class-below (run s m) sh b (suc (suc c)) n e = omega (arith, (upto-pos n m _ p pos e).0, b)

-- ---- a class by its number

pub class-at : (v : Vol) (x t m p n : ℕ) (r : Option ℕ) (c d : ℕ) → c ≡ d → Least (λ (k : ℕ). class_page v (root_by x t m) c k ≡ p) n positions r → Least (λ (k : ℕ). class_page v (root_by x t m) d k ≡ p) n positions r
class-at v x t m p n r c d e = subst (λ (b : ℕ). Least (λ (k : ℕ). class_page v (root_by x t m) b k ≡ p) n positions r) e
