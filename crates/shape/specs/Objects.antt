-- The object file as code has read its pointer. Assumes nothing.
use Rattle.std.specs.Prelude.{◌≡◌, List, ℕ}
use Rattle.book.specs.Entries.{object_file}
use Rattle.book.specs.Trees.{root_by}
use Rattle.book.specs.Words.{vol}
use Rattle.tree.specs.Reach.{Reach}

-- the object pointer has these flags and this page, and all pages of the object file are in the image
pub record ObjectsAt (img : List ℕ) (flags top : ℕ) : Type 0 where
  pub root : object_file (vol img) ≡ root_by flags top 0
  pub reach : Reach img (root_by flags top 0)
