-- The pages of a class in all files, by the entries that these have. Assumes nothing.
use mathlib.Core.Path.{◌≡◌, refl, sym, ap, ap₂, ◌∙◌, subst}
use mathlib.Core.Logic.{◌⊎◌, inl, inr}
use mathlib.Core.List.{List}
use Prim.Native.Nat.{ℕ, zero, suc, ◌+◌, ◌*◌, ◌/◌, ◌%◌, ◌≤◌, ◌<◌}
use native.Mathlib.Nat.{eq-zero-or-pos}
use native.Mathlib.Decide.{dec_lt}
use native.Mathlib.Omega.{arith}
use Rattle.std.proofs.Common.{Option}
use Rattle.book.specs.Words.{Vol, vol, two}
use Rattle.book.specs.Trees.{Root, root_at, root_by, page_at, upto}
use Rattle.book.specs.Entries.{user_file, object_file, object_page, object_pages, used}
use Rattle.book.specs.Files.{file_at}
use Rattle.book.specs.Image.{pages}
use Rattle.book.specs.Pointers.{flags, page, user_pointer, object_pointer}
use Rattle.laws.specs.Tree.Weigh.{BelowR}
use Rattle.seek.proofs.Search.{absent-used}
use Rattle.tree.specs.Reach.{Reach, entry_in}
use Rattle.tree.specs.Ends.{Ends}
use Rattle.tree.proofs.Entries.{file-in, file-in-none}
use Rattle.walk.specs.Held.{Volume}
use Rattle.walk.specs.Short.{ShortR}
use Rattle.who.specs.Least.{Never, Least}
use Rattle.who.specs.Turns.{positions, turns, class_page, file_page}
use Rattle.who.proofs.Leasts.{least_by}
use Rattle.who.proofs.Classes.{data-run, sub-other, index-other, class-none}

-- ---- all trees are in the image

module _ (img : List ℕ) (d : Volume img) where
  pub reach-users : Reach img (root_at (vol img 0) user_pointer 0)
  unfolding user_file
  reach-users = record { some = omega (arith, d.whole.least); below = d.within.users }

  pub reach-objects : Reach img (root_at (vol img 0) object_pointer 0)
  unfolding object_file
  reach-objects = record { some = omega (arith, d.whole.least); below = d.within.objs }

  pub short-users : ShortR (vol img) (root_at (vol img 0) user_pointer 0) 8
  unfolding user_file
  short-users = d.short.users

  pub short-objects : ShortR (vol img) (root_at (vol img 0) object_pointer 0) object_pages
  unfolding object_file
  short-objects = d.short.objects

  file-below : (e : ℕ) → e < 65536 → BelowR (vol img) (pages img) (file_at (vol img) e)
  file-below e h =
      let s : 256 * (e / 256) + e % 256 ≡ e = omega arith in
      subst (λ (n : ℕ). BelowR (vol img) (pages img) (file_at (vol img) n)) s (d.within.files (e / 256) (e % 256) (omega arith) (omega arith))

  pub reach-file : (e : ℕ) → e < 65536 → Reach img (file_at (vol img) e)
  reach-file e h = record { some = omega (arith, d.whole.least); below = file-below e h }

-- ---- turn positions * e + j is position j of the file of entry e

pub file-turn : (v : Vol) (c e j : ℕ) → j < positions → file_page v c (positions * e + j) ≡ class_page v (file_at v e) c j
unfolding file_page
file-turn v c e j h =
    let q : (positions * e + j) / positions ≡ e = omega arith in
    let s : (positions * e + j) % positions ≡ j = omega arith in
    ap₂ (λ (x y : ℕ). class_page v (file_at v x) c y) q s

-- the page of an entry
pub entry-at : (v : Vol) (q i e : ℕ) → q ≡ page_at v (object_file v) i → e / 32 ≡ i → q ≡ object_page v e
unfolding object_page
entry-at v q i e at h = at ∙ ap (page_at v (object_file v)) (sym h)

-- entries of an absent page have no files
absent-file : (v : Vol) (q i c x : ℕ) → q ≡ page_at v (object_file v) i → q ≡ 0 → x / 8388608 ≡ i → file_page v c x ≡ 0
unfolding file_page
absent-file v q i c x at z h =
    let e : ℕ = x / positions in
    let s : e / 32 ≡ i = omega arith in
    class-none v (file_at v e) 0 c (x % positions) (file-in-none v e q (entry-at v q i e at s) (λ u. omega (arith, u, absent-used v q e z)))

-- a file that is not indexed has no blocks
blockless : (v : Vol) (x t m c k : ℕ) → ((1 < c) ⊎ (0 < x) → ⊥) → class_page v (root_by x t m) c k ≡ 0
blockless v x t m zero k h = sub-other v x t m k (λ e. h (inr (omega arith)))
blockless v x t m (suc zero) k h = index-other v x t m k (λ e. h (inr (omega arith))) (λ e. h (inr (omega arith)))
blockless v x t m (suc (suc c)) k h = absurd (h (inl (omega arith)))

-- its data pages are its run
two-class : (c x : ℕ) → c < 3 → x ≡ 0 → (1 < c) ⊎ (0 < x) → 2 ≡ c
two-class c x h e (inl a) = omega arith
two-class c x h e (inr a) = absurd (let o : ⊥ = omega (arith, e, a) in o)

pub run-file : (v : Vol) (n x t m c : ℕ) → file_at v n ≡ root_by x t m → x ≡ 0 → c < 3 → (1 < c) ⊎ (0 < x) → (p k : ℕ) (r : Option ℕ)
    → Least (λ (i : ℕ). upto i m (t + i) ≡ p) k positions r → Least (λ (i : ℕ). class_page v (file_at v n) c i ≡ p) k positions r
run-file v n x t m c same e h o p k r =
    let q : 2 ≡ c = two-class c x h e o in
    least_by (λ (i : ℕ). upto i m (t + i)) (λ (i : ℕ). class_page v (file_at v n) c i) p k positions
    (λ i l. sym (data-run v x t m i e) ∙ ap (λ (b : ℕ). class_page v (root_by x t m) b i) q ∙ ap (λ (s : Root). class_page v s c i) (sym same)) r

pub plain-file : (v : Vol) (n q : ℕ) → q ≡ object_page v n → (x : ℕ) → x ≡ flags (entry_in v q n) 30 → (c k : ℕ) → ((1 < c) ⊎ (0 < x) → ⊥) → class_page v (file_at v n) c k ≡ 0
plain-file v n q at x a c k h = elim (eq-zero-or-pos (used (entry_in v q n))) [
  | inl z ↦ class-none v (file_at v n) 0 c k (file-in-none v n q at (λ u. omega (arith, u, z)))
  | inr u ↦
      let t : ℕ = page (entry_in v q n) 30 in
      let m : ℕ = two (entry_in v q n) 26 in
      ap (λ (r : Root). class_page v r c k) (file-in v n q at u x t m a refl refl) ∙ blockless v x t m c k h
]

pub page-absent : (v : Vol) (p c x i : ℕ) → 0 < p → (q : ℕ) → q ≡ page_at v (object_file v) i → q ≡ 0 → 8388608 * i ≤ x → Never (λ (y : ℕ). file_page v c y ≡ p) x (8388608 * i + 8388608)
page-absent v p c x i pos q at z h y s t e = let d : y / 8388608 ≡ i = omega arith in omega (arith, e, absent-file v q i c y at z d)

-- the object file ends at n
pub files-end : (img : List ℕ) (n p c x y : ℕ) → 0 < p → Ends img n → 8388608 * n ≤ y → Never (λ (k : ℕ). file_page (vol img) c k ≡ p) x y
    → Never (λ (k : ℕ). file_page (vol img) c k ≡ p) x turns
files-end img n p c x y pos d l none k s t e = elim (dec_lt k y) [
  | yes m ↦ none k s m e
  | no m ↦
      let g : page_at (vol img) (object_file (vol img)) (k / 8388608) ≡ 0 = d.none (k / 8388608) (omega arith) (omega arith) in
      let z : file_page (vol img) c k ≡ 0 = absent-file (vol img) 0 (k / 8388608) c k (sym g) refl refl in
      omega (arith, e, z)
]
