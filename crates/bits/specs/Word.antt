-- The lowest 0 of a word, and the zeros at its ends. Assumes nothing.
use Rattle.std.specs.Prelude.{◌≡◌, ℕ, suc, ◌+◌, ◌≤◌, ◌<◌}
use Rattle.book.specs.Bits.{digit}

-- r is the place of the lowest 0 of a word of 16 bits, or 16 where there is none
pub record FirstClear (w r : ℕ) : Type 0 where
  pub most : r ≤ 16
  pub below : (j : ℕ) → j < r → digit j w ≡ 1
  pub there : r < 16 → digit r w ≡ 0

-- r zeros stand below the lowest 1 of a word of 16 bits, 16 where there is none
pub record ZerosBelow (w r : ℕ) : Type 0 where
  pub most : r ≤ 16
  pub zeros : (j : ℕ) → j < r → digit j w ≡ 0
  pub there : r < 16 → digit r w ≡ 1

-- r zeros stand above the highest 1 of a word of 16 bits, 16 where there is none
pub record ZerosAbove (w r : ℕ) : Type 0 where
  pub most : r ≤ 16
  pub zeros : (j : ℕ) → 16 ≤ j + r → digit j w ≡ 0
  pub there : (j : ℕ) → suc j + r ≡ 16 → digit j w ≡ 1
