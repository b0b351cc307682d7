-- What reading a tree of an image asks for, and the words of an entry whose page is known. Assumes nothing.
use Rattle.std.specs.Prelude.{List, ℕ, ◌+◌, ◌<◌}
use Rattle.book.specs.Words.{Words, Vol, vol, word}
use Rattle.book.specs.Trees.{Root}
use Rattle.book.specs.Entries.{entry_word}
use Rattle.book.specs.Image.{pages}
use Rattle.laws.specs.Tree.Weigh.{BelowR}

-- there are pages, and all pages of r are among them
pub record Reach (img : List ℕ) (r : Root) : Type 0 where
  pub some : 0 < pages img
  pub below : BelowR (vol img) (pages img) r

-- the words of entry n on page q of the volume; only zeros where q is 0
abbrev pub entry_in : Vol → ℕ → ℕ → Words
entry_in v q n = λ k. word v q (entry_word n + k)
