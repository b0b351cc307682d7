-- Where a file ends: the position from which on it has no pages. Assumes nothing.
use Rattle.std.specs.Prelude.{◌≡◌, List, ℕ, ◌/◌, ◌%◌, ◌≤◌, ◌<◌}
use Rattle.book.specs.Words.{Vol, vol}
use Rattle.book.specs.Pointers.{slot}
use Rattle.book.specs.Trees.{page_at}
use Rattle.book.specs.Entries.{object_file, object_pages}

-- the object file has no page at n or later, of the 2,048 positions that it can have
pub record Ends (img : List ℕ) (n : ℕ) : Type 0 where
  pub most : n ≤ object_pages
  pub none : (k : ℕ) → n ≤ k → k < object_pages → page_at (vol img) (object_file (vol img)) k ≡ 0

-- the block in page b has no pointer at n or later
pub record SlotsEnd (v : Vol) (b n : ℕ) : Type 0 where
  pub most : n ≤ 512
  pub none : (k : ℕ) → n ≤ k → k < 512 → slot v b k ≡ 0

-- the first four index blocks under the subindex block in page t have no page at n or later
pub record TreeEnd (v : Vol) (t n : ℕ) : Type 0 where
  pub most : n ≤ object_pages
  pub none : (k : ℕ) → n ≤ k → k < object_pages → slot v (slot v t (k / 512)) (k % 512) ≡ 0
