-- A change as one plain number, and the row of such numbers that the first pass fills. Assumes nothing.
use Rattle.std.specs.Prelude.{◌≡◌, ◌≢◌, List, map, ℕ, suc, ◌+◌, ◌*◌, ◌/◌, ◌%◌, length, take, set}
use Rattle.book.specs.Words.{vol}
use Rattle.book.specs.Calls.{salvaged}
use Rattle.book.specs.Salvage.{changes, changed}
use Rattle.book.specs.declared.Change.{Change}

-- the place, the old and the new value of a changed word as one number of 64 bits, and back
abbrev pub packed_change : ℕ → ℕ → ℕ → ℕ
packed_change i old new = i * 4294967296 + old * 65536 + new

unfoldable pub unpacked : ℕ → Change
unpacked x = record { page = x / 4398046511104; word = x / 4294967296 % 1024; old = x / 65536 % 65536; new = x % 65536 }

-- so many changes can be told: unreserved, the bits of 140,733 pages and 256 used counts change 9,310 words at most
abbrev pub row_size : ℕ
row_size = 9311

-- the first n numbers of the row tell of what salvage changes at the places below i
pub record RowTells (img : List ℕ) (i : ℕ) (row : List ℕ) (n : ℕ) : Type 0 where
  pub begins : map unpacked (take n row) ≡ changes (vol img) (salvaged img) i
  pub count : n ≡ changed (vol img) (salvaged img) i
  pub size : length row ≡ row_size

-- the word at place i is to become x: where it is another, number n of the row tells so
pub record Noted (row : List ℕ) (i old x n : ℕ) (row' : List ℕ) (r : ℕ) : Type 0 where
  pub same : old ≡ x → (row' ≡ row) × (r ≡ n)
  pub told : old ≢ x → (row' ≡ set row n (packed_change i old x)) × (r ≡ suc n)
