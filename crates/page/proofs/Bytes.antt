-- The two bytes of a word, as std gives them. Assumes nothing.
use mathlib.Core.Path.{◌≡◌, refl}
use mathlib.Core.List.{List}
use Prim.Native.Nat.{ℕ, ◌/◌, ◌%◌, ◌<◌}
use native.Mathlib.Omega.{arith}
use lib.ListN.{get_or}
use Rattle.std.specs.Int.{w16, to_be_bytes}

pub bytes-high : (w : ℕ) (bs : List ℕ) → w < 65536 → bs ≡ to_be_bytes w16 w → get_or bs 0 0 ≡ w / 256
bytes-high w bs l e = rw e (omega arith)

pub bytes-low : (w : ℕ) (bs : List ℕ) → bs ≡ to_be_bytes w16 w → get_or bs 1 0 ≡ w % 256
bytes-low w bs e = rw e refl
