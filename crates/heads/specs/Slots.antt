-- The pointers of a block: each below P, and zero from slot m on. Assumes nothing.
use Rattle.std.specs.Prelude.{◌≡◌, List, ℕ, ◌≤◌, ◌<◌}
use Rattle.book.specs.Words.{Vol}
use Rattle.book.specs.Pointers.{slot}
use Rattle.book.specs.Image.{pages, most_pages}

-- pointer n of block b
abbrev pub SlotOk : ℕ → Vol → ℕ → ℕ → ℕ → Type 0
SlotOk P v b m n = (slot v b n < P) × (m ≤ n → slot v b n ≡ 0)

-- all 512 of them
unfoldable pub Slots : ℕ → Vol → ℕ → ℕ → Type 0
Slots P v b m = (n : ℕ) → n < 512 → SlotOk P v b m n

-- what reading block b asks for: it is one of the image's pages, which are not too many
pub record Block (img : List ℕ) (total b : ℕ) : Type 0 where
  pub count : total ≡ pages img
  pub most : total ≤ most_pages
  pub inside : b < pages img
