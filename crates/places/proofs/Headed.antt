-- The places of rules 1 and 2, by the ways through the code. Assumes nothing.
use mathlib.Core.Path.{◌≡◌}
use mathlib.Core.Logic.{inl, inr}
use Prim.Native.Nat.{ℕ}
use Rattle.book.specs.Words.{Vol}
use Rattle.book.specs.Pointers.{user_pointer, object_pointer, bit_pointer, volume_name}
use Rattle.book.specs.Names.{LegalName}
use Rattle.book.specs.Rules.{Rule1, Rule2}
use Rattle.book.specs.declared.Place.{Place}
use Rattle.book.specs.Spots.{AllHold, First}
use Rattle.book.specs.Places.{in_master, spots1, spots2}
use Rattle.laws.specs.Place.Rules.{rule1, rule2}
use Rattle.places.specs.Found.{ObjectsRight}

module _ (P : ℕ) (v : Vol) where
  -- ---- rule 1: the name, the bit pointer

  pub volume-wrong : (q : Place) → q ≡ in_master volume_name → (LegalName (v 0) volume_name → ⊥) → First (spots1 P v) q
  unfolding First spots1
  volume-wrong q e n = inl (e, n)

  pub bits-wrong : (q : Place) → q ≡ in_master bit_pointer → LegalName (v 0) volume_name → (Rule1 P v → ⊥) → First (spots1 P v) q
  unfolding First AllHold spots1
  bits-wrong q e l n = inr (l, (e, λ b. n (rule1 P v (l, b))))

  -- ---- rule 2: the object pointer, the user pointer

  pub objects-wrong : (q : Place) → q ≡ in_master object_pointer → (ObjectsRight P v → ⊥) → First (spots2 P v) q
  unfolding First spots2
  objects-wrong q e n = inl (e, n)

  pub users-wrong : (q : Place) → q ≡ in_master user_pointer → ObjectsRight P v → (Rule2 P v → ⊥) → First (spots2 P v) q
  unfolding First AllHold spots2
  users-wrong q e o n = inr (o, (e, λ u. n (rule2 P v (o, u))))
