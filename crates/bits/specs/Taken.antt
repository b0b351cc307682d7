-- Taking the lowest free page. Assumes nothing.
use Rattle.std.specs.Prelude.{◌≡◌, ℕ, ◌<◌}
use Rattle.book.specs.Words.{Vol}
use Rattle.book.specs.Bits.{lowest_free, claim}
use Rattle.bits.specs.File.{BitsAt}

-- the lowest free page of v can be taken
abbrev pub CanTake : ℕ → Vol → ℕ → Type 0
CanTake P v b = BitsAt P v b × (lowest_free P v < P)

-- d was taken of v, which left w
abbrev pub Took : ℕ → Vol → ℕ → Vol → Type 0
Took P v d w = (d ≡ lowest_free P v) × (d < P) × (w ≡ claim P v d)
