-- Rows of places that a loop passes, several at a time, and the first that does not hold. Assumes nothing.
use mathlib.Core.Path.{◌≡◌, subst}
use Prim.Native.Nat.{ℕ, ◌+◌, ◌-◌, ◌≤◌, ◌<◌}
use native.Mathlib.Decide.{dec_lt}
use native.Mathlib.Omega.{arith}
use Rattle.std.proofs.Common.{Option, None, Some}
use Rattle.book.specs.Spots.{Spots, each, AllHold, First, Passed, each_first}
use Rattle.places.specs.Found.{Finds}
use Rattle.book.specs.declared.Place.{Place}

module _ (n : ℕ) (f : ℕ → Spots) (i : ℕ) (a : Passed f i) where
  -- row i does not hold, and has this place
  pub each-found : i < n → (AllHold (f i) → ⊥) → (r : Option Place) → Finds (f i) r → Finds (each n f) r
  each-found h b None d = absurd (b d)
  each-found h b (Some q) d = each_first n f q i h a d

  -- the m rows from i on
  pub passed-part : (m : ℕ) → AllHold (each m (λ k. f (i + k))) → Passed f (i + m)
  unfolding AllHold
  passed-part m b j h = elim (dec_lt j i) [
    | yes l ↦ a j l
    | no l ↦ subst (λ (k : ℕ). AllHold (f k)) (let e : i + (j - i) ≡ j = omega arith in e) (b (j - i) (omega arith))
  ]

  pub part-found : (m : ℕ) → i + m ≤ n → (AllHold (each m (λ k. f (i + k))) → ⊥) → (r : Option Place) → Finds (each m (λ k. f (i + k))) r → Finds (each n f) r
  unfolding First AllHold
  part-found m h b None d = absurd (b d)
  part-found m h b (Some q) d = (i + d.0, omega (arith, d.1), passed-part d.0 d.2, d.3)
