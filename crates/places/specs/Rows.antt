-- The places of one object in the rows of rules 6 and 7, and where code looks for them. Assumes nothing.
use Rattle.std.specs.Prelude.{◌≡◌, List, ℕ, ◌*◌, ◌≤◌, ◌<◌}
use Rattle.book.specs.Words.{Vol, vol}
use Rattle.book.specs.Pointers.{flags, page}
use Rattle.book.specs.Trees.{root_by}
use Rattle.book.specs.Entries.{object, object_page, object_pages, used, user_file, file_entry, page_count, file_pointer}
use Rattle.book.specs.Image.{pages, most_pages, Whole}
use Rattle.book.specs.Spots.{Spots, when}
use Rattle.book.specs.Places.{object_spots, file_spots}
use Rattle.tree.specs.Reach.{Reach}
use Rattle.heads.specs.Twins.{On}
use Rattle.shape.specs.Objects.{ObjectsAt}

-- rule 6 of file f of user u; none where it is unused
abbrev pub object_row : Vol → ℕ → ℕ → Spots
object_row v u f = when (used (object v (file_entry u f))) (object_spots v u f (file_entry u f))

-- rule 7 of object e by the words of its entry; none where it is unused
abbrev pub shape_spots : ℕ → Vol → ℕ → Spots
shape_spots P v e = file_spots P v e (flags (object v e) file_pointer) (page (object v e) file_pointer) (page_count (object v e))

abbrev pub file_row : ℕ → Vol → ℕ → Spots
file_row P v e = when (used (object v e)) (shape_spots P v e)

-- page q is the object page at position n
pub record FilesOn (img : List ℕ) (total q n : ℕ) : Type 0 where
  pub whole : Whole img
  pub count : total ≡ pages img
  pub inside : q < pages img
  pub most : n < object_pages
  pub on : q ≡ object_page (vol img) (32 * n)

-- the object file, by the flags and the page of its pointer; the user file can be read too
pub record Objects (img : List ℕ) (x t : ℕ) : Type 0 where
  pub file : ObjectsAt img x t
  pub users : Reach img (user_file (vol img))
  pub most : pages img ≤ most_pages

-- file f of user u is used, and lies on page q
pub record UsedObject (img : List ℕ) (x t q u f : ℕ) : Type 0 where
  pub objects : Objects img x t
  pub on : On img (root_by x t 0) q (file_entry u f)
  pub inside : q < pages img
  pub user : u < 256
  pub file : f < 256
  pub used : 0 < used (object (vol img) (file_entry u f))
