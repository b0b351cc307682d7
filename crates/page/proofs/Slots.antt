-- Pointers of blocks. Assumes nothing.
use mathlib.Core.Path.{◌≡◌, refl, ap₂}
use Prim.Native.Nat.{ℕ, suc, ◌+◌, ◌*◌, ◌<◌}
use Rattle.book.specs.Words.{Vol, two, word}
use Rattle.book.specs.Pointers.{slot}
use Rattle.book.specs.Written.{word-pos}

-- an absent block has only zeros
pub slot-absent : (v : Vol) (n : ℕ) → slot v 0 n ≡ 0
unfolding slot two word
slot-absent v n = refl

pub slot-two : (v : Vol) (b n : ℕ) → 0 < b → slot v b n ≡ two (v b) (2 * n)
unfolding slot two
slot-two v b n h = ap₂ (λ (x y : ℕ). x * 65536 + y) (word-pos v b (2 * n) h) (word-pos v b (suc (2 * n)) h)
