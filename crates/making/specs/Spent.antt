-- Bits once the lowest free pages are taken. Assumes nothing.
use Rattle.std.specs.Prelude.{◌≡◌, ℕ, zero, suc, ◌≤◌, ◌<◌}
use Rattle.book.specs.Words.{Vol}
use Rattle.book.specs.Bits.{bit}
use Rattle.bits.specs.Search.{free_from}

-- w has the bits of v from page s on, and no page below s is free in it
pub record Spent (P : ℕ) (v w : Vol) (s : ℕ) : Type 0 where
  pub below : (p : ℕ) → p < P → p < s → bit P w p ≡ 1
  pub above : (p : ℕ) → p < P → s ≤ p → bit P w p ≡ bit P v p

-- the page after the n lowest free ones
unfoldable pub after_lowest : ℕ → Vol → ℕ → ℕ
after_lowest P v zero = 0
after_lowest P v (suc n) = suc (free_from P v (after_lowest P v n))
