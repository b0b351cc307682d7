-- Numbers in decimal, read back, and what a numeral is. That decimal n is the one numeral that stands for n is proved in proofs/Decimal.antt. Assumes nothing.
use Rattle.std.specs.Prelude.{[], ◌∷◌, ℕ, ◌+◌, ◌-◌, ◌*◌, ◌≤◌, ◌<◌, length, get_or}
use Rattle.book.specs.Listing.{Bytes}

-- digits read after those that stand for n
unfoldable pub read_on : ℕ → Bytes → ℕ
read_on n [] = n
read_on n (b ∷ t) = read_on (n * 10 + (b - 48)) t

-- the number that a text of digits stands for
abbrev pub value : Bytes → ℕ
value t = read_on 0 t

abbrev pub Digit : ℕ → Type 0
Digit b = (48 ≤ b) × (b ≤ 57)

abbrev pub Digits : Bytes → Type 0
Digits t = (i : ℕ) → i < length t → Digit (get_or t i 0)

-- one digit or more, and no zero in front of others
pub record Numeral (t : Bytes) : Type 0 where
  pub any : 0 < length t
  pub all : Digits t
  pub first : 1 < length t → 48 < get_or t 0 0
