-- The places of rule 5, by the ways through the code. Assumes nothing.
use mathlib.Core.Path.{◌≡◌, sym, ◌∙◌, subst₂}
use mathlib.Core.Logic.{inl}
use Prim.Native.Nat.{ℕ, zero, suc}
use native.Mathlib.Omega.{arith}
use Rattle.book.specs.Words.{Vol}
use Rattle.book.specs.Pointers.{flags, page, slot, object_pointer}
use Rattle.book.specs.Entries.{user}
use Rattle.book.specs.declared.Place.{Place}
use Rattle.book.specs.Spots.{spot, each, AllHold, First}
use Rattle.book.specs.Places.{in_master, May, pointers, spots5_by, spots5}
use Rattle.heads.specs.Span.{Span}
use Rattle.heads.specs.Fine.{Unused}
use Rattle.std.proofs.Common.{Option}
use Rattle.places.specs.Found.{Finds}
use Rattle.places.proofs.Filed.{then_found}

module _ (P : ℕ) (v : Vol) (t : ℕ) where
  -- ---- indexed: the users above 63, the index block

  pub users-above : (q : Place) → q ≡ in_master object_pointer → (Span (Unused (user v)) 64 256 → ⊥) → First (spots5_by P v 1 t) q
  unfolding First spots5_by Span
  users-above q e n = inl (e, n)

  pub index-found : (r : Option Place) → Span (Unused (user v)) 64 256 → Finds (pointers v t (May P 512)) r → Finds (spots5_by P v 1 t) r
  unfolding AllHold spots5_by Span
  index-found r s d = then_found (spot (in_master object_pointer) (Span (Unused (user v)) 64 256)) (pointers v t (May P 512)) r s d

  -- ---- subindexed: the subindex block, the index blocks

  pub subindex-wrong : (q : Place) → First (pointers v t (May P 4)) q → First (spots5_by P v 2 t) q
  unfolding First spots5_by
  subindex-wrong q f = inl f

  pub indexes-found : (r : Option Place) → AllHold (pointers v t (May P 4)) → Finds (each 4 (λ i. pointers v (slot v t i) (May P 512))) r → Finds (spots5_by P v 2 t) r
  unfolding spots5_by
  indexes-found r a d = then_found _ _ r a d

  -- ---- neither

  neither : (x : ℕ) → (x ≡ 1 → ⊥) → (x ≡ 2 → ⊥) → AllHold (spots5_by P v x t)
  unfolding AllHold spots5_by
  neither zero a b = tt
  neither (suc zero) a b = absurd (let z : ⊥ = omega arith in z)
  neither (suc (suc zero)) a b = absurd (let z : ⊥ = omega arith in z)
  neither (suc (suc (suc x))) a b = tt

-- x and t are the flags and the page of the object pointer
module _ (P : ℕ) (v : Vol) (x t : ℕ) (a : x ≡ flags (v 0) object_pointer) (e : t ≡ page (v 0) object_pointer) where
  pub found-by : (r : Option Place) (y : ℕ) → x ≡ y → Finds (spots5_by P v y t) r → Finds (spots5 P v) r
  unfolding spots5
  found-by r y q d = subst₂ (λ (f p : ℕ). Finds (spots5_by P v f p) r) (sym q ∙ a) e d

  pub found-neither : (x ≡ 1 → ⊥) → (x ≡ 2 → ⊥) → AllHold (spots5 P v)
  unfolding spots5
  found-neither i s = subst₂ (λ (f p : ℕ). AllHold (spots5_by P v f p)) a e (neither P v t x i s)
