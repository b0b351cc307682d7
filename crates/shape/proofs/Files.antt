-- The shapes of a file by the flags of its pointer. Assumes nothing.
use mathlib.Core.Path.{◌≡◌, sym, subst}
use mathlib.Core.Logic.{◌⊎◌}
use mathlib.Core.Bool.{Bool}
use Prim.Native.Nat.{ℕ, zero, suc, ◌<◌}
use native.Mathlib.Omega.{arith}
use Rattle.book.specs.Decides.{Decides}
use Rattle.book.specs.Files.{Shape, Empty, Contiguous, Indexed, Subindexed}
use Rattle.book.specs.Words.{Vol}

module _ (P : ℕ) (v : Vol) (x t n : ℕ) where
  with-flags : (y : ℕ) (r : Bool) → x ≡ y → Decides r (Shape P v y t n) → Decides r (Shape P v x t n)
  with-flags y r e d = subst (λ (z : ℕ). Decides r (Shape P v z t n)) (sym e) d

  pub shape-0 : (r : Bool) → x ≡ 0 → Decides r (Empty t n ⊎ Contiguous P t n) → Decides r (Shape P v x t n)
  unfolding Shape
  shape-0 r e d = with-flags 0 r e d

  pub shape-1 : (r : Bool) → x ≡ 1 → Decides r (Indexed P v t n) → Decides r (Shape P v x t n)
  unfolding Shape
  shape-1 r e d = with-flags 1 r e d

  pub shape-2 : (r : Bool) → x ≡ 2 → Decides r (Subindexed P v t n) → Decides r (Shape P v x t n)
  unfolding Shape
  shape-2 r e d = with-flags 2 r e d

pub shape-wrong : (P : ℕ) (v : Vol) (x t n : ℕ) → 2 < x → Shape P v x t n → ⊥
unfolding Shape
shape-wrong P v zero t n h s = omega arith
shape-wrong P v (suc zero) t n h s = omega arith
shape-wrong P v (suc (suc zero)) t n h s = omega arith
shape-wrong P v (suc (suc (suc x))) t n h s = s
