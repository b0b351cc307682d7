-- A file is right exactly when all its places hold; files of a page, and of all pages. Assumes nothing.
use mathlib.Core.Path.{◌≡◌, ap, ◌∙◌, subst}
use mathlib.Core.List.{List}
use Prim.Native.Nat.{ℕ, ◌+◌, ◌-◌, ◌*◌, ◌/◌, ◌≤◌, ◌<◌, zero-le}
use native.Mathlib.Decide.{dec_lt}
use native.Mathlib.Omega.{arith}
use Rattle.book.specs.Words.{Vol, vol}
use Rattle.book.specs.Pointers.{flags, page}
use Rattle.book.specs.Entries.{object, object_file, object_page, object_pages, used, page_count, file_pointer}
use Rattle.book.specs.Files.{FileShape}
use Rattle.book.specs.Image.{pages}
use Rattle.book.specs.Trees.{page_at}
use Rattle.book.specs.Spots.{each, AllHold, Passed, when-all, when-hold}
use Rattle.book.specs.Places.{file_spots, spots7}
use Rattle.laws.specs.Place.Rule7.{shape-all, shape-by}
use Rattle.tree.specs.Reach.{entry_in}
use Rattle.shape.specs.Shapes.{EntryRight, FilesRight}
use Rattle.shape.proofs.Objects.{at_right}
use Rattle.std.proofs.Common.{Option}
use Rattle.places.specs.Found.{Finds, ObjectAt}
use Rattle.places.specs.Rows.{shape_spots, file_row, FilesOn}
use Rattle.places.proofs.Finding.{finds-when}
use Rattle.places.proofs.Passing.{each-found, part-found}
use Rattle.book.specs.declared.Place.{Place}

module _ (P : ℕ) (v : Vol) where
  file-all : (e : ℕ) → (0 < used (object v e) → FileShape P v e) → AllHold (file_row P v e)
  unfolding AllHold file_spots FileShape
  file-all e f = when-all (used (object v e)) _ (λ l.
      let g = f l in let s = shape-all P v (page (object v e) file_pointer) (page_count (object v e)) (flags (object v e) file_pointer) g.0 in (g.1, (s.0, s.1)))

  all-file : (e : ℕ) → AllHold (file_row P v e) → 0 < used (object v e) → FileShape P v e
  unfolding AllHold file_spots FileShape
  all-file e a l =
      let s = when-hold (used (object v e)) _ a l in
      (shape-by P v (page (object v e) file_pointer) (page_count (object v e)) (flags (object v e) file_pointer) s.1.0 s.1.1, s.0)

  -- the files before n, and those of a page
  files-passed : (n : ℕ) → FilesRight P v 0 n → Passed (file_row P v) n
  files-passed n f e h = file-all e (f e h zero-le)

  pub page-passed : (a k : ℕ) → FilesRight P v a (a + k) → Passed (λ i. file_row P v (a + i)) k
  page-passed a k f i h = file-all (a + i) (f (a + i) (omega arith) (omega arith))

  page-wrong : (n : ℕ) → (FilesRight P v (32 * n) (32 * n + 32) → ⊥) → AllHold (each 32 (λ k. file_row P v (32 * n + k))) → ⊥
  unfolding AllHold
  page-wrong n w a = w (λ e h i. all-file e (subst (λ (x : ℕ). AllHold (file_row P v x)) (here e h i) (a (e - 32 * n) (omega arith))))
    where
      here : (e : ℕ) → e < 32 * n + 32 → 32 * n ≤ e → 32 * n + (e - 32 * n) ≡ e
      here e h i = omega arith

  -- the first position whose files are not right
  pub position-found : (n : ℕ) → n < object_pages → FilesRight P v 0 (32 * n) → (FilesRight P v (32 * n) (32 * n + 32) → ⊥) → (r : Option Place) → Finds (each 32 (λ k. file_row P v (32 * n + k))) r → Finds (spots7 P v) r
  unfolding spots7
  position-found n h f w r d = part-found 65536 (file_row P v) (32 * n) (files-passed (32 * n) f) 32 (omega arith) (page-wrong n w) r d

-- entry k of the object page q at position n, as code tests it
module _ (img : List ℕ) (total q n k : ℕ) (d : FilesOn img total q n) (h : k < 32) where
  abbrev P : ℕ
  P = pages img

  abbrev v : Vol
  v = vol img

  pub object-at : ObjectAt img total q (32 * n + k)
  unfolding object_page
  object-at = record {
    count = d.count;
    most = omega (arith, d.count, d.whole.most);
    on = d.on ∙ ap (page_at v (object_file v)) (let s : 32 * n / 32 ≡ (32 * n + k) / 32 = omega arith in s);
    inside = d.inside;
  }

  -- it fails: it is used, and what is found in it is what is found
  module _ (w : EntryRight P v (entry_in v q (32 * n + k)) → ⊥) where
    used-at : 0 < used (object v (32 * n + k))
    used-at = elim (dec_lt 0 (used (object v (32 * n + k)))) [
      | yes l ↦ l
      | no l ↦ absurd (w (at_right v n k q h d.on P (λ u. absurd (l u))))
    ]

    pub entry_found : FilesRight P v (32 * n) (32 * n + k) → (r : Option Place) → Finds (shape_spots P v (32 * n + k)) r → Finds (each 32 (λ i. file_row P v (32 * n + i))) r
    entry_found f r g = each-found 32 (λ i. file_row P v (32 * n + i)) k (page-passed P v (32 * n) k f) h
        (λ a. w (at_right v n k q h d.on P (all-file P v (32 * n + k) a))) r (finds-when (used (object v (32 * n + k))) _ used-at r g)
