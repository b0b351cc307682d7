-- The index block that holds a position of an indexed file, and the page there: both are pages of the volume. Assumes nothing.
use mathlib.Core.Path.{◌≡◌, refl, subst}
use Prim.Native.Nat.{ℕ, zero, suc, ◌/◌, ◌%◌, ◌<◌}
use native.Mathlib.Omega.{arith}
use Rattle.book.specs.Words.{Vol}
use Rattle.book.specs.Pointers.{slot}
use Rattle.book.specs.Trees.{Fill, Below}
use Rattle.book.specs.Files.{Shape}
use Rattle.book.specs.Grow.{index_of}

-- the flags x, the page t and the count n of an indexed file with a page
module _ (P : ℕ) (v : Vol) (t n : ℕ) (some : 0 < n) where
  pub top_in : (x : ℕ) → Shape P v x t n → (x ≡ 0 → n ≡ 0) → (0 < t) × (t < P)
  unfolding Shape Fill Below
  top_in zero s k = absurd (let q : ⊥ = omega (arith, k refl) in q)
  top_in (suc zero) s k = (s.2.0 some, s.3.0)
  top_in (suc (suc zero)) s k = (s.2.0 some, s.3.0)
  top_in (suc (suc (suc x))) s k = absurd s

  module _ (m : ℕ) (small : m < 262144) where
    pub index-lt : (x : ℕ) → Shape P v x t n → (x ≡ 0 → n ≡ 0) → index_of v x t m < P
    unfolding Shape Below index_of
    index-lt zero s k = absurd (let q : ⊥ = omega (arith, k refl) in q)
    index-lt (suc zero) s k = s.3.0
    index-lt (suc (suc zero)) s k = (s.3.1 (m / 512) (omega arith)).0
    index-lt (suc (suc (suc x))) s k = absurd s

    pub page-lt : (x : ℕ) → Shape P v x t n → (x ≡ 0 → n ≡ 0) → slot v (index_of v x t m) (m % 512) < P
    unfolding Shape Below index_of
    page-lt zero s k = absurd (let q : ⊥ = omega (arith, k refl) in q)
    page-lt (suc zero) s k = s.3.1 (m % 512) (omega arith)
    page-lt (suc (suc zero)) s k = (s.3.1 (m / 512) (omega arith)).1 (m % 512) (omega arith)
    page-lt (suc (suc (suc x))) s k = absurd s

  pub index-pos : (m : ℕ) → m < n → (x : ℕ) → Shape P v x t n → (x ≡ 0 → n ≡ 0) → 0 < index_of v x t m
  unfolding Shape Fill index_of
  index-pos m h zero s k = absurd (let q : ⊥ = omega (arith, k refl) in q)
  index-pos m h (suc zero) s k = s.2.0 some
  index-pos m h (suc (suc zero)) s k = (s.2.2 (m / 512) (omega (arith, s.1))).0 (omega arith)
  index-pos m h (suc (suc (suc x))) s k = absurd s

-- a pointer of the one block, and of the two blocks
pub slot-one : (P : ℕ) (v : Vol) (x t n : ℕ) → Shape P v x t n → x ≡ 1 → (k : ℕ) → k < 512 → slot v t k < P
unfolding Shape Below
slot-one P v x t n s e k h = (subst (λ (y : ℕ). Shape P v y t n) e s).3.1 k h

pub slot-two : (P : ℕ) (v : Vol) (x t n : ℕ) → Shape P v x t n → x ≡ 2 → (k j : ℕ) → k < 512 → j < 512 → (slot v t k < P) × (slot v (slot v t k) j < P)
unfolding Shape Below
slot-two P v x t n s e k j h i = let b : Shape P v 2 t n = subst (λ (y : ℕ). Shape P v y t n) e s in ((b.3.1 k h).0, (b.3.1 k h).1 j i)
