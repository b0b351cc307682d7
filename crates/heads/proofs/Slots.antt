-- Pointers of a block, as the code judges them. Assumes nothing.
use mathlib.Core.Path.{◌≡◌, sym, ap, ◌∙◌}
use mathlib.Core.Bool.{Bool}
use mathlib.Core.List.{List}
use Prim.Native.Nat.{ℕ, ◌≤◌, ◌<◌}
use native.Mathlib.Decide.{dec_lt}
use native.Mathlib.Omega.{arith}
use Rattle.book.specs.Words.{Vol, vol}
use Rattle.book.specs.Decides.{Decides}
use Rattle.book.specs.Pointers.{slot}
use Rattle.page.proofs.Deciding.{decides-iff}
use Rattle.page.proofs.Slots.{slot-absent}
use Rattle.tree.specs.Blocks.{Linked, Unlinked}
use Rattle.tree.proofs.Blocks.{part_of, part-slot}
use Rattle.heads.specs.Slots.{Slots}

-- an absent block has only zeros
pub slots-absent : (P : ℕ) (v : Vol) (b m : ℕ) → b ≡ 0 → 0 < P → Slots P v b m
unfolding Slots
slots-absent P v b m z h n l =
    let e : slot v b n ≡ 0 = ap (λ (x : ℕ). slot v x n) z ∙ slot-absent v n in
    (omega arith, λ i. e)

-- a block, from its part of the image
module _ (img : List ℕ) (P b m : ℕ) (h : 0 < b) (some : 0 < P) (most : m ≤ 512) where
  slots-from : Linked 0 P (part_of img b) m × Unlinked (part_of img b) m 512 → Slots P (vol img) b m
  unfolding Slots
  slots-from s n l = let e = part-slot img b h n in elim (dec_lt n m) [
    | yes i ↦ (omega (arith, e, (s.0 n i).1), λ j. absurd (let z : ⊥ = omega arith in z))
    | no i ↦ let q = s.1 n l (omega arith) in (omega (arith, e, q), λ j. sym e ∙ q)
  ]

  from-slots : Slots P (vol img) b m → Linked 0 P (part_of img b) m × Unlinked (part_of img b) m 512
  unfolding Slots
  from-slots s = ((λ n l. (omega arith, omega (arith, part-slot img b h n, (s n (omega arith)).0))), λ n l i. part-slot img b h n ∙ (s n l).1 i)

  pub decides-slots : (r : Bool) → Decides r (Linked 0 P (part_of img b) m × Unlinked (part_of img b) m 512) → Decides r (Slots P (vol img) b m)
  decides-slots r = decides-iff r _ _ slots-from from-slots
