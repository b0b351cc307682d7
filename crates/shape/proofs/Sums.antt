-- The pages of files by their entries, and sums as loops add them up. Assumes nothing.
use mathlib.Core.Path.{◌≡◌, refl, sym, ap, ap₂, ◌∙◌}
use mathlib.Core.List.{List}
use Prim.Native.Nat.{ℕ, zero, suc, ◌+◌, ◌*◌, ◌≤◌, ◌<◌}
use native.Mathlib.Numerals.{add-one}
use native.Mathlib.Omega.{arith}
use Rattle.sums.specs.Search.{pick_yes, pick_no}
use Rattle.sums.specs.Sum.{sum, sum-suc, sum-none}
use Rattle.book.specs.Entries.{object, object_page, used}
use Rattle.book.specs.Files.{cost}
use Rattle.book.specs.Pointers.{flags}
use Rattle.book.specs.Words.{Words, Vol, vol, two}
use Rattle.laws.specs.Count.Charge.{charge, entry_pages}
use Rattle.laws.specs.Count.Sums.{sum-cat}
use Rattle.tree.specs.Ends.{Ends}
use Rattle.tree.specs.Reach.{entry_in}
use Rattle.tree.proofs.Absent.{ends-unused}
use Rattle.shape.specs.Counts.{pages_at, pages_of}
use Rattle.shape.proofs.Objects.{entry-at, absent-at}

-- one summand more
pub sum_more : (n : ℕ) (f : ℕ → ℕ) (s x : ℕ) → s ≡ sum n f → x ≡ f n → s + x ≡ sum (n + 1) f
sum_more n f s x a b = ap₂ (λ (y z : ℕ). y + z) a b ∙ sym (ap (λ (m : ℕ). sum m f) (add-one n) ∙ sum-suc n f)

-- 32 summands more
pub sum-page : (n : ℕ) (f : ℕ → ℕ) (s x : ℕ) → s ≡ sum n f → x ≡ sum 32 (λ i. f (n + i)) → s + x ≡ sum (n + 32) f
sum-page n f s x a b = ap₂ (λ (y z : ℕ). y + z) a b ∙ sym (sum-cat 32 n f)

-- ---- by the flags x of a pointer

pub charge-run : (x n : ℕ) → x ≡ 0 → n ≡ charge x n
unfolding charge
charge-run x n e = sym (ap (λ (y : ℕ). charge y n) e)

pub charge-tree : (x n : ℕ) → (x ≡ 0 → ⊥) → cost n ≡ charge x n
unfolding charge
charge-tree zero n h = absurd (h refl)
charge-tree (suc x) n h = refl

-- ---- by the words w of an entry

module _ (w : Words) where
  pub pages-unused : (0 < used w → ⊥) → 0 ≡ entry_pages w
  unfolding entry_pages
  pages-unused h = sym (pick_no (used w) _ 0 (omega arith))

  pub pages-used : 0 < used w → (x n : ℕ) → x ≡ flags w 30 → n ≡ two w 26 → charge x n ≡ entry_pages w
  unfolding entry_pages
  pages-used h x n a b = ap₂ charge a b ∙ sym (pick_yes (used w) _ 0 h)

-- entry k of the object page q at position n
pub pages-at : (v : Vol) (n k q : ℕ) → k < 32 → q ≡ object_page v (32 * n) → entry_pages (entry_in v q (32 * n + k)) ≡ entry_pages (object v (32 * n + k))
pages-at v n k q h at = ap entry_pages (entry-at v n k q h at)

-- an absent page has none
pub pages-absent : (v : Vol) (n q : ℕ) → q ≡ object_page v (32 * n) → q ≡ 0 → 0 ≡ pages_at v n
pages-absent v n q at z =
    sym (sum-none 32 (λ k. entry_pages (object v (32 * n + k))) (λ k h. sym (pages-unused (object v (32 * n + k)) (λ u. omega (arith, absent-at v n k q h at z)))))

-- a user has none where none of his objects is used
pub pages-none : (v : Vol) (u : ℕ) → ((i k : ℕ) → i < 8 → k < 32 → 0 < used (object v (32 * (8 * u + i) + k)) → ⊥) → 0 ≡ pages_of v u
pages-none v u f =
    sym (sum-none 8 (λ i. pages_at v (8 * u + i)) (λ i h. sum-none 32 (λ k. entry_pages (object v (32 * (8 * u + i) + k))) (λ k l. sym (pages-unused (object v (32 * (8 * u + i) + k)) (f i k h l)))))

-- where the object file ends before them
pub pages-past : (img : List ℕ) (n : ℕ) → Ends img n → (u : ℕ) → n ≤ 8 * u → u < 256 → 0 ≡ pages_of (vol img) u
pages-past img n d u h l = pages-none (vol img) u (λ i k a b j. omega (arith, ends-unused img n d (32 * (8 * u + i) + k) (omega arith) (omega arith)))
