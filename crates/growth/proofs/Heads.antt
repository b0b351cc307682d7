-- The index block that holds a position, as the code reads it. Assumes nothing.
use mathlib.Core.Path.{◌≡◌, refl, sym, ap}
use mathlib.Core.Logic.{◌≢◌}
use Prim.Native.Nat.{ℕ, zero, suc, ◌/◌, ◌<◌}
use native.Mathlib.Nat.{not-suc-le-zero}
use Rattle.book.specs.Words.{Vol}
use Rattle.book.specs.Pointers.{slot}
use Rattle.book.specs.Grow.{index_of}

-- by the flags x of the pointer: its own page, or a pointer of that page
pub index-one : (v : Vol) (x t n : ℕ) → x ≡ 1 → t ≡ index_of v x t n
unfolding index_of
index-one v x t n e = sym (ap (λ (y : ℕ). index_of v y t n) e)

pub index-two : (v : Vol) (x t n : ℕ) → 0 < x → x ≢ 1 → slot v t (n / 512) ≡ index_of v x t n
unfolding index_of
index-two v zero t n h e = absurd (not-suc-le-zero h)
index-two v (suc zero) t n h e = absurd (e refl)
index-two v (suc (suc x)) t n h e = refl
