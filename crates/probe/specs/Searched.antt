-- Whether an image has a bit file to search. Assumes nothing.
use Rattle.std.specs.Prelude.{◌≡◌, ℕ, Option, Some, None, ◌≤◌}
use Rattle.book.specs.Words.{Vol}
use Rattle.book.specs.Image.{most_pages}
use Rattle.bits.specs.File.{BitsAt}

-- the bit file of a volume with not too many pages begins at b
abbrev pub Usable : ℕ → Vol → ℕ → Type 0
Usable P v b = (P ≤ most_pages) × BitsAt P v b

-- where the bit file begins, or none where there is none
abbrev pub Searched : ℕ → Vol → Option ℕ → Type 0
Searched P v (Some b) = Usable P v b
Searched P v None = (b : ℕ) → Usable P v b → ⊥

-- r is what the search of the bit file finds, or 0 where there is none
pub record Searching (P : ℕ) (v : Vol) (found r : ℕ) : Type 0 where
  pub there : (b : ℕ) → Usable P v b → r ≡ found
  pub absent : ((b : ℕ) → Usable P v b → ⊥) → r ≡ 0
