-- The pages that a file of n pages holds, by the flags x of its pointer. Assumes nothing.
use mathlib.Core.Path.{◌≡◌, sym}
use mathlib.Core.Logic.{◌≢◌, inl, inr}
use Prim.Native.Nat.{ℕ, ◌+◌, ◌/◌, ◌≤◌, ◌<◌}
use native.Mathlib.Nat.{eq-zero-or-pos}
use native.Mathlib.Omega.{arith}
use Rattle.sums.specs.Search.{pick_yes, pick_no}
use Rattle.book.specs.Files.{cost}
use Rattle.growth.specs.Head.{held_by}

module _ (x n : ℕ) where
  -- those of a run
  pub held-run : x ≡ 0 → n ≡ held_by x n
  unfolding held_by
  held-run z = sym (pick_no x (cost n) n z)

  -- with index blocks, and with a subindex block
  pub held_low : x ≢ 0 → n ≤ 512 → n + (n + 511) / 512 ≡ held_by x n
  unfolding held_by cost
  held_low z h = omega (arith, pick_yes x (cost n) n (omega arith))

  pub held_high : x ≢ 0 → 512 < n → n + (n + 511) / 512 + 1 ≡ held_by x n
  unfolding held_by cost
  held_high z h = omega (arith, pick_yes x (cost n) n (omega arith))

  -- its pages at least, and a block if it has one
  pub held-le : n ≤ held_by x n
  unfolding held_by cost
  held-le = elim (eq-zero-or-pos x) [
    | inl z ↦ omega (arith, pick_no x (cost n) n z)
    | inr p ↦ omega (arith, pick_yes x (cost n) n p)
  ]

  pub held_more : 0 < x → 0 < n → n < held_by x n
  unfolding held_by cost
  held_more p h = omega (arith, pick_yes x (cost n) n p)
