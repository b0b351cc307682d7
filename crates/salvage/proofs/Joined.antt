-- A word that has the lowest bits of one and the others of another. Assumes nothing.
use mathlib.Core.Path.{◌≡◌, ap, ◌∙◌}
use Prim.Native.Nat.{ℕ, ◌-◌, ◌%◌, ◌^◌, ◌≤◌, ◌<◌, min, max}
use native.Mathlib.Nat.{mod-lt}
use native.Mathlib.Omega.{arith}
use lib.Bits.{bit_and, bit_or}
use lib.Pow.{pow_pos}
use Rattle.book.specs.Bits.{digit}
use Rattle.bits.proofs.Digits.{digit_and, digit_or, digit_not, digit_low, digit-above}
use Rattle.book.specs.Written.{digit-le}

-- a is m's lowest n bits, b is w's: the first, and w without the second
pub joined-digit : (w m n a b : ℕ) → a ≡ m % 2 ^ n → b ≡ w % 2 ^ n → b < 65536 → (j : ℕ) → j < 16
    → (j < n → digit j (bit_or a (bit_and w (65535 - b))) ≡ digit j m) × (n ≤ j → digit j (bit_or a (bit_and w (65535 - b))) ≡ digit j w)
joined-digit w m n a b ea eb small j hj = (
  λ l. omega (arith, both, low m a ea l, low w b eb l, digit-le j w, digit-le j m),
  λ l. omega (arith, both, high m a ea l, high w b eb l, digit-le j w),
)
  where
    both : digit j (bit_or a (bit_and w (65535 - b))) ≡ max (digit j a) (min (digit j w) (1 - digit j b))
    both = digit_or j a (bit_and w (65535 - b)) ∙ ap (max (digit j a)) (digit_and j w (65535 - b) ∙ ap (min (digit j w)) (digit_not j 16 b hj small))

    low : (x y : ℕ) → y ≡ x % 2 ^ n → j < n → digit j y ≡ digit j x
    low x y e l = ap (digit j) e ∙ digit_low j n x l

    high : (x y : ℕ) → y ≡ x % 2 ^ n → n ≤ j → digit j y ≡ 0
    high x y e l = ap (digit j) e ∙ digit-above j n (x % 2 ^ n) (mod-lt x (pow_pos n)) l
