-- Searches of the bit file. Assumes nothing.
use Rattle.std.specs.Prelude.{◌≡◌, ℕ, ◌+◌, ◌-◌, ◌*◌, ◌/◌, ◌≤◌, ◌<◌}
use Rattle.sums.specs.Search.{lowest}
use Rattle.book.specs.Words.{Vol}
use Rattle.book.specs.Bits.{bit, digit}

-- the lowest free page from s on, and P if there is none: from page 0 on it is `lowest_free`
unfoldable pub free_from : ℕ → Vol → ℕ → ℕ
free_from P v s = lowest (λ p. 1 - bit P v p - (s - p)) P

-- w has the bits of m pages from word i on, of those below P; the pages from P on count as reserved
pub record BitsIn (P : ℕ) (v : Vol) (i m w : ℕ) : Type 0 where
  pub below : (j : ℕ) → j < m → i * 16 + j < P → digit j w ≡ bit P v (i * 16 + j)
  pub past : (j : ℕ) → j < m → P ≤ i * 16 + j → digit j w ≡ 1

-- w is the word of P's own bit
abbrev pub LastWord : ℕ → Vol → ℕ → Type 0
LastWord P v w = BitsIn P v (P / 16) 16 w
