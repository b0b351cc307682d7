-- The index block that holds a position, by the flags x and the page t of a pointer: as code reads it; and that of an object entry. Assumes nothing.
use Rattle.std.specs.Prelude.{◌≡◌}
use Rattle.std.proofs.Common.{sym, ap, ap₂}
use Rattle.std.proofs.Math.Path.{subst}
use Rattle.std.proofs.Math.Logic.{inl, inr}
use Prim.Native.Nat.{ℕ, suc, ◌-◌, ◌/◌, ◌<◌}
use native.Mathlib.Omega.{arith}
use Rattle.book.specs.Create.{object_index}
use Rattle.book.specs.Entries.{entry_page}
use Rattle.book.specs.Grow.{index_of}
use Rattle.book.specs.Pointers.{flags, page, slot, Inside, object_pointer}
use Rattle.book.specs.Rules.{Rule2, Rule5, Rule5By, Sound}
use Rattle.book.specs.Trees.{Below}
use Rattle.book.specs.Words.{Vol}
use Rattle.laws.specs.Tree.Pointer.{zero_flags, zero-page}

module _ (v : Vol) (x t n : ℕ) where
  kind : (y : ℕ) → x ≡ y → index_of v x t n ≡ index_of v y t n
  kind y e = ap (λ (z : ℕ). index_of v z t n) e

  pub index-none : x ≡ 0 → index_of v x t n ≡ 0
  unfolding index_of
  index-none e = kind 0 e

  pub index-one : x ≡ 1 → index_of v x t n ≡ t
  unfolding index_of
  index-one e = kind 1 e

  pub index-two : 1 < x → index_of v x t n ≡ slot v t (n / 512)
  unfolding index_of
  index-two h = let e : x ≡ suc (suc (x - 2)) = omega arith in kind (suc (suc (x - 2))) e

-- of object entry e, as code has read the object pointer
pub index_read : (v : Vol) (e x t : ℕ) → x ≡ flags (v 0) object_pointer → t ≡ page (v 0) object_pointer → object_index v e ≡ index_of v x t (entry_page e)
unfolding object_index
index_read v e x t a b = ap₂ (λ (y z : ℕ). index_of v y z (entry_page e)) (sym a) (sym b)

-- the object pointer's page, and every object index block, are below P
module _ (P : ℕ) (v : Vol) (S : Sound P v) (some : 0 < P) where
  pub object-top : page (v 0) object_pointer < P
  unfolding Rule2 Inside
  object-top = elim S.r2 [
    | inl z ↦ omega (arith, zero-page (v 0) object_pointer z.1)
    | inr i ↦ elim i.1 [
      | inl a ↦ a.2
      | inr a ↦ a.2
    ]
  ]

  pub index_below : (e : ℕ) → e < 65536 → object_index v e < P
  unfolding object_index Rule2 Inside Rule5 Rule5By Below
  index_below e h = elim S.r2 [
    | inl z ↦ omega (arith, index-none v (flags (v 0) object_pointer) (page (v 0) object_pointer) (entry_page e) (zero_flags (v 0) object_pointer z.1))
    | inr i ↦ elim i.1 [
      | inl a ↦ omega (arith, index-one v (flags (v 0) object_pointer) (page (v 0) object_pointer) (entry_page e) a.0, a.2)
      | inr a ↦
          let b = subst (λ (x : ℕ). Rule5By P v x (page (v 0) object_pointer)) a.0 S.r5 in
          omega (arith, index-two v (flags (v 0) object_pointer) (page (v 0) object_pointer) (entry_page e) (omega (arith, a.0)), (b.0.1 (entry_page e / 512) (omega arith)).0)
    ]
  ]
