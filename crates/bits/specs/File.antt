-- Where the bit file is. Assumes nothing.
use Rattle.std.specs.Prelude.{◌≡◌, ℕ, ◌+◌, ◌≤◌, ◌<◌}
use Rattle.book.specs.Words.{Vol}
use Rattle.book.specs.Pointers.{page, bit_pointer}
use Rattle.book.specs.Bits.{bit_pages}

-- the bit pointer names page b, and all pages of the bit file from there on lie in 1..P-1
pub record BitsAt (P : ℕ) (v : Vol) (b : ℕ) : Type 0 where
  pub at : page (v 0) bit_pointer ≡ b
  pub some : 0 < b
  pub fits : b + bit_pages P ≤ P
