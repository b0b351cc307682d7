-- What marking all that is held asks for, and what it tells. Assumes nothing.
use Rattle.std.specs.Prelude.{◌≡◌, List, ℕ, ◌+◌, ◌*◌, ◌≤◌, ◌<◌, length, Option, Some, None}
use Rattle.book.specs.Words.{Vol, vol}
use Rattle.book.specs.Holders.{holders, all, some}
use Rattle.book.specs.Image.{Whole, pages}
use Rattle.laws.specs.Count.Reach.{Within}
use Rattle.bits.specs.Marks.{marked}
use Rattle.walk.specs.Short.{Shorts}

-- whole pages, all trees among them and none longer than it may be: rules 1, 2, 3, 5 and 7 say so
pub record Volume (img : List ℕ) : Type 0 where
  pub whole : Whole img
  pub within : Within (pages img) (vol img)
  pub short : Shorts (vol img)

-- each page is marked as often as it is held, and all are counted
pub record HeldOn (P : ℕ) (v : Vol) (m : List ℕ) (x : ℕ) : Type 0 where
  pub held : (p : ℕ) → p < P → marked m p ≡ holders P v p
  pub count : x ≡ 1 + all P v some
  pub room : P ≤ 16 * length m

-- that, or a page is held twice
abbrev pub Held : ℕ → Vol → List ℕ → Option ℕ → Type 0
Held P v m (Some x) = HeldOn P v m x
Held P v m None = (p : ℕ) × (p < P) × (2 ≤ holders P v p)
