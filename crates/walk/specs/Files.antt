-- What marking the files asks for. Assumes nothing.
use Rattle.std.specs.Prelude.{List, ℕ, ◌<◌}
use Rattle.book.specs.Words.{vol}
use Rattle.book.specs.Entries.{object, page_count}
use Rattle.book.specs.Files.{file_at}
use Rattle.book.specs.Image.{pages}
use Rattle.laws.specs.Tree.Weigh.{BelowR}
use Rattle.walk.specs.Short.{ShortR}

-- the pages of every file are among those of the image, and its positions end at its page count
pub record FilesFit (img : List ℕ) : Type 0 where
  pub below : (e : ℕ) → e < 65536 → BelowR (vol img) (pages img) (file_at (vol img) e)
  pub short : (e : ℕ) → e < 65536 → ShortR (vol img) (file_at (vol img) e) (page_count (object (vol img) e))
