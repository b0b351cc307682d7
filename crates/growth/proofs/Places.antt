-- The bit file stays where it is while slots and entries are written. Assumes nothing.
use mathlib.Core.Path.{◌≡◌}
use Prim.Native.Nat.{ℕ, ◌<◌, suc}
use native.Mathlib.Omega.{arith}
use Rattle.book.specs.Words.{Vol, put2}
use Rattle.book.specs.Written.{put2-page}
use Rattle.book.specs.Pointers.{set_slot, bit_pointer}
use Rattle.book.specs.Grow.{finish}
use Rattle.bits.specs.File.{BitsAt}
use Rattle.bits.proofs.Places.{bits-kept}

module _ (P : ℕ) (v : Vol) (b : ℕ) (B : BitsAt P v b) where
  bits_put : (q j x : ℕ) → 0 < q → BitsAt P (put2 v q j x) b
  bits_put q j x h =
      let n : 0 ≡ q → ⊥ = λ e. omega arith in
      bits-kept P v (put2 v q j x) b (put2-page v q j x 0 bit_pointer n) (put2-page v q j x 0 (suc bit_pointer) n) B

  pub bits-slot : (q k d : ℕ) → 0 < q → BitsAt P (set_slot v q k d) b
  unfolding set_slot
  bits-slot q k d h = bits_put q _ d h

pub bits-finish : (P : ℕ) (v : Vol) (b : ℕ) → BitsAt P v b → (U O a e n ptr x : ℕ) → 0 < U → 0 < O → BitsAt P (finish v U O a e n ptr x) b
unfolding finish
bits-finish P v b B U O a e n ptr x hU hO = bits_put P _ b (bits_put P _ b (bits_put P _ b (bits_put P v b B O _ n hO) O _ _ hO) O _ ptr hO) U _ x hU
