-- What looking through a row of places has found. Assumes nothing.
use mathlib.Core.Path.{◌≡◌, subst}
use Prim.Native.Nat.{ℕ, ◌<◌}
use Rattle.book.specs.declared.Place.{Place}
use Rattle.std.proofs.Common.{Option, None, Some}
use Rattle.book.specs.Spots.{Spots, AllHold, First, when, when-all, when-first}
use Rattle.places.specs.Found.{Finds}

module _ (s : Spots) (r : Option Place) (d : Finds s r) where
  pub found_at : (q : Place) → r ≡ Some q → First s q
  found_at q e = subst (λ (x : Option Place). Finds s x) e d

-- the places of an entry that is used, and of one that is not
pub finds-when : (n : ℕ) (s : Spots) → 0 < n → (r : Option Place) → Finds s r → Finds (when n s) r
finds-when n s h None d = when-all n s (λ l. d)
finds-when n s h (Some q) d = when-first n s q h d

pub unused-all : (n : ℕ) (s : Spots) → (0 < n → ⊥) → AllHold (when n s)
unused-all n s h = when-all n s (λ l. absurd (h l))
