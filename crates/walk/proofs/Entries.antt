-- Walking over the files of an object page, and of all. Assumes nothing.
use mathlib.Core.Path.{◌≡◌, refl, sym, ap, ◌∙◌, subst₂}
use mathlib.Core.List.{List}
use Prim.Native.Nat.{ℕ, ◌+◌, ◌*◌, ◌/◌, ◌≤◌, ◌<◌}
use native.Mathlib.Omega.{arith}
use Rattle.std.specs.Prelude.{Option, Some}
use Rattle.sums.specs.Sum.{sum, sum-none, sum-zero}
use Rattle.book.specs.Words.{Words, Vol, vol, two}
use Rattle.book.specs.Pointers.{flags, page}
use Rattle.book.specs.Trees.{Root, run, root_by, page_at, weigh_r}
use Rattle.book.specs.Entries.{object, object_file, object_page, used, page_count, object_pages}
use Rattle.book.specs.Files.{file_at}
use Rattle.book.specs.Holders.{hit, some, mine}
use Rattle.book.specs.Image.{pages}
use Rattle.laws.specs.Count.Sums.{sum_rows}
use Rattle.tree.specs.Reach.{entry_in}
use Rattle.tree.specs.Ends.{Ends}
use Rattle.tree.proofs.Entries.{object-in, absent-word, file-in, file-in-none}
use Rattle.walk.specs.Files.{FilesFit}
use Rattle.walk.specs.Short.{ShortR}
use Rattle.walk.specs.Walked.{Weigher, Walking, WalkedOn, Walked}
use Rattle.walk.proofs.Walks.{Counts, row_of, row_counts, walking_on, walked_none, walked_same, row-past}
use Rattle.walk.proofs.Runs.{root-counts}

-- the entries of position n of the object file lie on its page
pub place : (v : Vol) (n i : ℕ) → i < 32 → page_at v (object_file v) n ≡ object_page v (32 * n + i)
unfolding object_page
place v n i h = let e : n ≡ (32 * n + i) / 32 = omega arith in ap (page_at v (object_file v)) e

-- ---- files that are not there

module _ (v : Vol) where
  empty : (r : Root) → r ≡ run 0 0 → (g : ℕ → ℕ) → weigh_r v r g ≡ 0
  unfolding weigh_r
  empty r e g = ap (λ (x : Root). weigh_r v x g) e ∙ sum-zero (λ i. g (0 + i))

  -- on an absent object page no entry is used
  absent : (n q i : ℕ) → i < 32 → q ≡ page_at v (object_file v) n → q ≡ 0 → file_at v (32 * n + i) ≡ run 0 0
  unfolding used
  absent n q i h e z =
      let w : entry_in v q (32 * n + i) 0 ≡ 0 = absent-word v q (32 * n + i) 0 z in
      file-in-none v (32 * n + i) q (e ∙ place v n i h) (λ u. omega (arith, u, w))

  absent-files : (n q : ℕ) → q ≡ page_at v (object_file v) n → q ≡ 0 → (g : ℕ → ℕ) → sum 32 (λ i. weigh_r v (file_at v (32 * n + i)) g) ≡ 0
  absent-files n q e z g = sum-none 32 (λ i. weigh_r v (file_at v (32 * n + i)) g) (λ i h. empty (file_at v (32 * n + i)) (absent n q i h e z) g)

module _ (P : ℕ) (m : List ℕ) (visited : ℕ) (v : Vol) where
  -- a root that code knows by another name
  pub walked-root : (r s : Root) → r ≡ s → (m' : List ℕ) (w : Option ℕ) → Walked P m visited (weigh_r v s) m' w → Walked P m visited (weigh_r v r) m' w
  walked-root r s e m' w k = walked_same P m visited (weigh_r v s) (weigh_r v r) (λ g. ap (λ (x : Root). weigh_r v x g) (sym e)) m' w k

  pub walked_empty : (r : Root) → r ≡ run 0 0 → Walked P m visited (weigh_r v r) m (Some visited)
  walked_empty r e = walked_none P m visited (weigh_r v r) (λ p. empty v r e (hit p)) (empty v r e some)

  pub walked-absent : (n q : ℕ) → q ≡ page_at v (object_file v) n → q ≡ 0 → Walked P m visited (λ g. sum 32 (λ i. weigh_r v (file_at v (32 * n + i)) g)) m (Some visited)
  walked-absent n q e z = walked_none P m visited (λ g. sum 32 (λ i. weigh_r v (file_at v (32 * n + i)) g)) (λ p. absent-files v n q e z (hit p)) (absent-files v n q e z some)

-- the file in object entry e, as code reads the entry on page q
module _ (v : Vol) (e q : ℕ) (at : q ≡ object_page v e) (h : 0 < used (entry_in v q e)) (x t n : ℕ) (a : x ≡ flags (entry_in v q e) 30) (b : t ≡ page (entry_in v q e) 30) (c : n ≡ two (entry_in v q e) 26) where
  pub read-file : file_at v e ≡ root_by x t n
  read-file = file-in v e q at h x t n a b c

  pub read_short : ShortR v (file_at v e) (page_count (object v e)) → ShortR v (root_by x t n) n
  read_short s = subst₂ (ShortR v) read-file (sym (c ∙ ap (λ (w : Words). two w 26) (object-in v e q at))) s

abbrev pub files_of : List ℕ → ℕ → ℕ → Weigher
files_of img n = λ i. weigh_r (vol img) (file_at (vol img) (32 * n + i))

abbrev pub positions_of : List ℕ → ℕ → Weigher
positions_of img = λ n. row_of (files_of img n) 32

module _ (img : List ℕ) (F : FilesFit img) where
  files-counts : (n i : ℕ) → n < object_pages → i ≤ 32 → Counts (pages img) (row_of (files_of img n) i)
  files-counts n i h l =
      row_counts (pages img) (files_of img n) i (λ j lt. root-counts (vol img) (pages img) (file_at (vol img) (32 * n + j)) (F.below (32 * n + j) (omega arith)))

  pub files-walking : (n i : ℕ) → n < object_pages → i ≤ 32 → (m : List ℕ) (v : ℕ) (m' : List ℕ) (x : ℕ) → Walking img m v → WalkedOn (pages img) m v (row_of (files_of img n) i) m' x → Walking img m' x
  files-walking n i h l m v m' x w k = walking_on img m v (row_of (files_of img n) i) m' x w (files-counts n i h l) k

  pub positions-walking : (n : ℕ) → n ≤ object_pages → (m : List ℕ) (v : ℕ) (m' : List ℕ) (x : ℕ) → Walking img m v → WalkedOn (pages img) m v (row_of (positions_of img) n) m' x → Walking img m' x
  positions-walking n h m v m' x w k =
      walking_on img m v (row_of (positions_of img) n) m' x w (row_counts (pages img) (positions_of img) n (λ i lt. files-counts i 32 (omega arith) (omega arith))) k

-- 2,048 positions of 32 files are 256 users of 256 files
pub regroup : (img : List ℕ) (g : ℕ → ℕ) → row_of (positions_of img) object_pages g ≡ sum 256 (λ u. mine (vol img) u g)
unfolding mine
regroup img g = let f : ℕ → ℕ = λ e. weigh_r (vol img) (file_at (vol img) e) g in sum_rows 32 object_pages f ∙ sym (sum_rows 256 256 f)

-- those from the object file's end on have no pages
pub walked-files : (P : ℕ) (m : List ℕ) (v : ℕ) (img : List ℕ) (ends : ℕ) → Ends img ends → (m' : List ℕ) (r : Option ℕ)
    → Walked P m v (row_of (positions_of img) ends) m' r → Walked P m v (λ g. sum 256 (λ u. mine (vol img) u g)) m' r
walked-files P m v img ends d m' r k =
    walked_same P m v (row_of (positions_of img) object_pages) (λ g. sum 256 (λ u. mine (vol img) u g)) (regroup img) m' r
    (row-past P m v (positions_of img) ends object_pages d.most (λ i a b g z. absent-files (vol img) i _ refl (d.none i a b) g) m' r k)
