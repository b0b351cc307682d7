-- What the code that looks for a place asks for and tells. Assumes nothing.
use Rattle.std.specs.Prelude.{Option, None, Some, ◌≡◌, List, ◌⊎◌, ℕ, ◌*◌, ◌≤◌, ◌<◌, length}
use Rattle.book.specs.Words.{Vol, vol}
use Rattle.book.specs.Pointers.{flags, page, Zero, Inside, indexed, subindexed, user_pointer, object_pointer}
use Rattle.book.specs.Trees.{root_by}
use Rattle.book.specs.Entries.{user, user_file, used, used_pages, object_page}
use Rattle.book.specs.Image.{pages, most_pages}
use Rattle.book.specs.Holders.{mine, some, holders}
use Rattle.book.specs.Rules.{Rule7}
use Rattle.bits.specs.File.{BitsAt}
use Rattle.bits.specs.Marks.{marked}
use Rattle.tree.specs.Ends.{Ends}
use Rattle.tree.specs.Reach.{Reach}
use Rattle.shape.specs.Objects.{ObjectsAt}
use Rattle.heads.specs.Twins.{On}
use Rattle.book.specs.Spots.{Spots, spot, when, AllHold, First}
use Rattle.book.specs.Places.{in_user}
use Rattle.book.specs.declared.Place.{Place}

-- all places of s hold, or this is the first that does not
abbrev pub Finds : Spots → Option Place → Type 0
Finds s None = AllHold s
Finds s (Some q) = First s q

-- what rule 2 asks for at the object pointer: it is zero exactly when the user pointer is
abbrev pub ObjectsRight : ℕ → Vol → Type 0
ObjectsRight P v = (Zero (v 0) user_pointer × Zero (v 0) object_pointer) ⊎ ((Zero (v 0) user_pointer → ⊥) × (Inside P (v 0) object_pointer indexed ⊎ Inside P (v 0) object_pointer subindexed))

-- the user file, by the flags and the page of its pointer
pub record Users (img : List ℕ) (x t : ℕ) : Type 0 where
  pub flagged : x ≡ flags (vol img 0) user_pointer
  pub top : t ≡ page (vol img 0) user_pointer
  pub reach : Reach img (root_by x t 0)
  pub most : pages img ≤ most_pages

-- user u is used, and lies on page q
pub record UserAt (img : List ℕ) (x t q u : ℕ) : Type 0 where
  pub users : Users img x t
  pub on : On img (root_by x t 0) q u
  pub inside : q < pages img
  pub below : u < 256
  pub used : 0 < used (user (vol img) u)

-- each page's mark is whether it is held; the bit file begins at page b
pub record Reserved (img : List ℕ) (total b : ℕ) (m : List ℕ) : Type 0 where
  pub count : total ≡ pages img
  pub bits : BitsAt (pages img) (vol img) b
  pub most : pages img ≤ most_pages
  pub held : (p : ℕ) → p < pages img → marked m p ≡ holders (pages img) (vol img) p
  pub room : pages img ≤ 16 * length m

-- object e lies on page q
pub record ObjectAt (img : List ℕ) (total q e : ℕ) : Type 0 where
  pub count : total ≡ pages img
  pub most : total ≤ most_pages
  pub on : q ≡ object_page (vol img) e
  pub inside : q < pages img

-- the used count of user u, as rule 10's row has it
abbrev pub count_row : Vol → ℕ → Spots
count_row v u = when (used (user v u)) (spot (in_user v u 16) (used_pages (user v) u ≡ mine v u some))

-- what the used counts are compared with can be read: the object pointer has flags x and page t, and the object file ends at n
pub record Counting (img : List ℕ) (x t n : ℕ) : Type 0 where
  pub objects : ObjectsAt img x t
  pub ends : Ends img n
  pub users : Reach img (user_file (vol img))
  pub most : pages img ≤ most_pages
  pub shapes : Rule7 (pages img) (vol img)
