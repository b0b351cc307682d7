-- The image that a caller lends, and what a call's arguments must be. Assumes nothing.
use Rattle.std.specs.Prelude.{◌≡◌, List, ℕ, ◌+◌, ◌/◌, ◌%◌, ◌≤◌, ◌<◌, length, get_or}
use Rattle.book.specs.Words.{vol}
use Rattle.book.specs.Bits.{bit_pages}
use Rattle.book.specs.Rules.{Sound}

-- P
abbrev pub pages : List ℕ → ℕ
pages img = length img / 1024

-- the largest pack
abbrev pub most_pages : ℕ
most_pages = 140733

-- an image is of 16-bit words
abbrev pub Sixteen : List ℕ → Type 0
Sixteen img = (i : ℕ) → get_or img i 0 < 65536

-- whole pages, 8 to 140,733 of them
pub record Whole (img : List ℕ) : Type 0 where
  pub even : length img % 1024 ≡ 0
  pub least : 8 ≤ pages img
  pub most : pages img ≤ most_pages

-- whole pages, and sound: what every step but format may assume
pub record Ready (img : List ℕ) : Type 0 where
  pub whole : Whole img
  pub sound : Sound (pages img) (vol img)

-- ---- arguments

-- a user or file index
abbrev pub IndexArg : ℕ → Type 0
IndexArg u = u ≤ 255

-- a page count
abbrev pub CountArg : ℕ → Type 0
CountArg n = (0 < n) × (n ≤ most_pages)

-- a page number
abbrev pub PageArg : ℕ → ℕ → Type 0
PageArg P p = p < P

-- where a format's bit file begins: all of it in 1..P-1
abbrev pub BitArg : ℕ → ℕ → Type 0
BitArg P b = (0 < b) × (b + bit_pages P ≤ P)

-- page data
abbrev pub DataArg : List ℕ → Type 0
DataArg d = length d ≡ 1024
