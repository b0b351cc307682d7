-- The object file, the files of an object page, and of pages in a row. Assumes nothing.
use mathlib.Core.Path.{◌≡◌, sym, ap, ◌∙◌, subst}
use mathlib.Core.List.{List}
use Prim.Native.Nat.{ℕ, ◌+◌, ◌-◌, ◌*◌, ◌/◌, ◌≤◌, ◌<◌, zero-le}
use native.Mathlib.Decide.{ℕ_discrete, dec_lt}
use native.Mathlib.Omega.{arith}
use Rattle.book.specs.Entries.{object, object_file, object_page, used}
use Rattle.book.specs.Files.{FileShape}
use Rattle.book.specs.Image.{pages, Whole}
use Rattle.book.specs.Pointers.{flags, page, object_pointer}
use Rattle.book.specs.Rules.{Rule2, Rule5, Rule7}
use Rattle.book.specs.Trees.{root_by, page_at}
use Rattle.book.specs.Words.{Vol, vol}
use Rattle.laws.specs.Count.Reach.{below-objects}
use Rattle.tree.specs.Reach.{entry_in}
use Rattle.tree.proofs.Entries.{object-in, absent-word}
use Rattle.tree.specs.Ends.{Ends}
use Rattle.tree.proofs.Reach.{reach-same, object-root, page-read}
use Rattle.tree.proofs.Absent.{ends-unused}
use Rattle.shape.specs.Objects.{ObjectsAt}
use Rattle.shape.specs.Shapes.{EntryRight, FilesRight}

-- as code reads its pointer: flags x and page t
pub objects-at : (img : List ℕ) (x t : ℕ) → Whole img → Rule2 (pages img) (vol img) → Rule5 (pages img) (vol img) → x ≡ flags (vol img 0) object_pointer → t ≡ page (vol img 0) object_pointer → ObjectsAt img x t
objects-at img x t w a b ex et =
    let e : object_file (vol img) ≡ root_by x t 0 = object-root (vol img) x t ex et in
    record { root = e; reach = reach-same img _ _ e (record { some = omega arith; below = below-objects (pages img) (vol img) a b }) }

pub object-page-at : (img : List ℕ) (x t : ℕ) → ObjectsAt img x t → (n q : ℕ) → q ≡ page_at (vol img) (root_by x t 0) n → q ≡ object_page (vol img) (32 * n)
unfolding object_page
object-page-at img x t o n q e = page-read (vol img) (object_file (vol img)) (root_by x t 0) n (32 * n / 32) q o.root (omega arith) e

-- ---- entry k of the object page q at position n

module _ (v : Vol) (n k q : ℕ) (h : k < 32) (at : q ≡ object_page v (32 * n)) where
  pub entry-at : entry_in v q (32 * n + k) ≡ object v (32 * n + k)
  unfolding object_page
  entry-at = object-in v (32 * n + k) q (at ∙ ap (page_at v (object_file v)) (let s : 32 * n / 32 ≡ (32 * n + k) / 32 = omega arith in s))

  pub absent-at : q ≡ 0 → used (object v (32 * n + k)) ≡ 0
  unfolding used
  absent-at z = ap used (sym entry-at) ∙ (let w : entry_in v q (32 * n + k) 0 ≡ 0 = absent-word v q (32 * n + k) 0 z in omega arith)

  pub right-at : (P : ℕ) → EntryRight P v (entry_in v q (32 * n + k)) → 0 < used (object v (32 * n + k)) → FileShape P v (32 * n + k)
  unfolding FileShape
  right-at P f = subst (EntryRight P v) entry-at f

  pub at_right : (P : ℕ) → (0 < used (object v (32 * n + k)) → FileShape P v (32 * n + k)) → EntryRight P v (entry_in v q (32 * n + k))
  unfolding FileShape
  at_right P f = subst (EntryRight P v) (sym entry-at) f

-- all files of object page q, the one at position n
pub right-entries : (v : Vol) (n q : ℕ) → q ≡ object_page v (32 * n) → (P : ℕ) → ((k : ℕ) → k < 32 → 0 ≤ k → EntryRight P v (entry_in v q (32 * n + k))) → FilesRight P v (32 * n) (32 * n + 32)
right-entries v n q at P f e h i =
    let s : 32 * n + (e - 32 * n) ≡ e = omega arith in
    subst (λ (x : ℕ). 0 < used (object v x) → FileShape P v x) s (right-at v n (e - 32 * n) q (omega arith) at P (f (e - 32 * n) (omega arith) (omega arith)))

-- ---- files in a row

module _ (P : ℕ) (v : Vol) where
  pub right-none : (a : ℕ) → FilesRight P v a (a + 0)
  right-none a e h i = absurd (let z : ⊥ = omega arith in z)

  pub right-more : (a k : ℕ) → FilesRight P v a (a + k) → (0 < used (object v (a + k)) → FileShape P v (a + k)) → FilesRight P v a (a + (k + 1))
  right-more a k f g e h i = elim (ℕ_discrete e (a + k)) [
    | yes q ↦ subst (λ (x : ℕ). 0 < used (object v x) → FileShape P v x) (sym q) g
    | no q ↦ f e (omega arith) i
  ]

  -- an absent page has none
  pub right-absent : (n q : ℕ) → q ≡ object_page v (32 * n) → q ≡ 0 → FilesRight P v (32 * n) (32 * n + 32)
  right-absent n q at z e h i u = absurd (let b : ⊥ = omega (arith, subst (λ (x : ℕ). used (object v x) ≡ 0) (here e h i) (absent-at v n (e - 32 * n) q (omega arith) at z)) in b)
    where
      here : (e : ℕ) → e < 32 * n + 32 → 32 * n ≤ e → 32 * n + (e - 32 * n) ≡ e
      here e h i = omega arith

  -- the pages before, and the next
  pub right-page : (n : ℕ) → FilesRight P v 0 (32 * n) → FilesRight P v (32 * n) (32 * n + 32) → FilesRight P v 0 (32 * (n + 1))
  right-page n f g e h i = elim (dec_lt e (32 * n)) [
    | yes l ↦ f e l i
    | no l ↦ g e (omega arith) (omega arith)
  ]

  pub all_right : Rule7 P v → (a z : ℕ) → z ≤ 65536 → FilesRight P v a z
  unfolding Rule7
  all_right r a z m e h i = r e (omega arith)

-- the files before the end of the object file are all
pub right-all : (img : List ℕ) (n : ℕ) → Ends img n → FilesRight (pages img) (vol img) 0 (32 * n) → Rule7 (pages img) (vol img)
unfolding Rule7
right-all img n d f e h = elim (dec_lt e (32 * n)) [
  | yes l ↦ f e l zero-le
  | no l ↦ λ u. absurd (let z : ⊥ = omega (arith, ends-unused img n d e (omega arith) h) in z)
]
