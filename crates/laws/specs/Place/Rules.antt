-- A rule holds exactly when all its places do; rule 7 stands by itself in Rule7. Assumes nothing.
use Rattle.std.specs.Prelude.{◌≡◌, Bool}
use Rattle.std.proofs.Common.{sym, ap, ◌∙◌}
use Rattle.std.proofs.Math.Logic.{inl, inr}
use Prim.Native.Nat.{ℕ, zero, suc, ◌<◌}
use Rattle.std.proofs.Math.Decide.{dec_lt, ℕ_discrete}
use native.Mathlib.Omega.{arith}
use Rattle.book.specs.Words.{Vol, two}
use Rattle.book.specs.Pointers.{flags, page, slot, Zero, Inside, user_pointer, object_pointer}
use Rattle.book.specs.Trees.{Below}
use Rattle.book.specs.Entries.{user, object, used, file_entry}
use Rattle.book.specs.Names.{stored, SameName, SameFile}
use Rattle.book.specs.Rules.{Rule1, Rule2, Rule3, Rule4Over, Rule5, Rule5By, Rule6, Rule6Over, Rule8, Rule9, Rule10}
use Rattle.laws.specs.Tree.Pointer.{zero-page, zero_flags}
use Rattle.laws.specs.Tree.Slot.{slot-zero}
use Rattle.laws.specs.File.Named.{SameFile-sym}
use Rattle.book.specs.Spots.{AllHold, when-all, when-hold}
use Rattle.book.specs.Places.{pointers, spots1, spots2, spots3, user_spots, spots4, spots5_by, spots5, object_spots, spots6, spots8, spots9, spots10}

-- the slots of no block
pub slot-of-none : (v : Vol) (b n : ℕ) → b ≡ 0 → slot v b n ≡ 0
slot-of-none v b n e = ap (λ (x : ℕ). slot v x n) e ∙ slot-zero v n

module _ (P : ℕ) (v : Vol) where
  -- ---- 1

  pub all1 : Rule1 P v → AllHold (spots1 P v)
  unfolding AllHold spots1
  all1 r = (r.name, (r.unflagged, r.start, r.fits))

  pub rule1 : AllHold (spots1 P v) → Rule1 P v
  unfolding AllHold spots1
  rule1 a = record { name = a.0; unflagged = a.1.0; start = a.1.1; fits = a.1.2 }

  -- ---- 2

  zero-not : (k x : ℕ) → Inside P (v 0) k x → Zero (v 0) k → ⊥
  unfolding Inside
  zero-not k x i z = omega (arith, zero-page (v 0) k z, i.1)

  pub all2 : Rule2 P v → AllHold (spots2 P v)
  unfolding AllHold spots2 Rule2
  all2 (inl r) = (inl r, inl r.0)
  all2 (inr r) = (inr (zero-not user_pointer 1 r.0, r.1), inr r.0)

  pub rule2 : AllHold (spots2 P v) → Rule2 P v
  unfolding AllHold spots2 Rule2
  rule2 (inl a, b) = inl a
  rule2 (inr a, inl b) = absurd (a.0 b)
  rule2 (inr a, inr b) = inr (b, a.1)

  -- ---- 3

  pub all3 : Rule3 P v → AllHold (spots3 P v)
  unfolding AllHold spots3 pointers Rule3
  all3 r s h = ((r s h).0, (r s h).1, λ l. omega arith)

  pub rule3 : AllHold (spots3 P v) → Rule3 P v
  unfolding AllHold spots3 pointers Rule3
  rule3 a s h = ((a s h).0, (a s h).1)

  -- ---- 5

  all5_by : (x t : ℕ) → Rule5By P v x t → AllHold (spots5_by P v x t)
  unfolding AllHold spots5_by pointers Rule5By Below
  all5_by zero t r = tt
  all5_by (suc zero) t r = (r.1, λ s h. (r.0.1 s h, (λ m. absurd (let z : ⊥ = omega arith in z)), λ m. omega arith))
  all5_by (suc (suc zero)) t r = ((λ s h. ((r.0.1 s h).0, (λ m. r.1 s m h), λ m. omega arith)), λ i h s l. ((r.0.1 i (omega arith)).1 s l, (λ m. absurd (let z : ⊥ = omega arith in z)), λ m. omega arith))
  all5_by (suc (suc (suc x))) t r = absurd r

  pub all5 : Rule5 P v → AllHold (spots5 P v)
  unfolding spots5 Rule5
  all5 = all5_by (flags (v 0) object_pointer) (page (v 0) object_pointer)

  rule5_by : (x t : ℕ) → t < P → x < 3 → AllHold (spots5_by P v x t) → Rule5By P v x t
  unfolding AllHold spots5_by pointers Rule5By Below
  rule5_by zero t l m a = tt
  rule5_by (suc zero) t l m a = ((l, λ s h. (a.1 s h).0), a.0)
  rule5_by (suc (suc zero)) t l m a = ((l, λ k h. ((a.0 k h).0, below k h)), λ i h j. (a.0 i j).1 h)
    where
      below : (k : ℕ) → k < 512 → (s : ℕ) → s < 512 → slot v (slot v t k) s < P
      below k h s j = elim (dec_lt k 4) [
        | yes e ↦ (a.1 k e s j).0
        | no ne ↦ omega (arith, slot-of-none v (slot v t k) s ((a.0 k h).1 (omega arith)))
      ]
  rule5_by (suc (suc (suc x))) t l m a = absurd (omega arith)

  -- what rule 2 says of the object pointer
  object-pointer : 0 < P → Rule2 P v → (page (v 0) object_pointer < P) × (flags (v 0) object_pointer < 3)
  unfolding Rule2 Inside
  object-pointer h (inl r) = (omega (arith, zero-page (v 0) object_pointer r.1), omega (arith, zero_flags (v 0) object_pointer r.1))
  object-pointer h (inr (a, inl r)) = (r.2, omega (arith, r.0))
  object-pointer h (inr (a, inr r)) = (r.2, omega (arith, r.0))

  pub rule5 : 0 < P → Rule2 P v → AllHold (spots5 P v) → Rule5 P v
  unfolding spots5 Rule5
  rule5 h two = let p = object-pointer h two in rule5_by (flags (v 0) object_pointer) (page (v 0) object_pointer) p.0 p.1

  -- ---- 8, 9

  pub all8 : Rule8 P v → AllHold (spots8 P v)
  unfolding AllHold spots8 Rule8
  all8 r = r

  pub rule8 : AllHold (spots8 P v) → Rule8 P v
  unfolding AllHold spots8 Rule8
  rule8 a = a

  pub all9 : Rule9 P v → AllHold (spots9 P v)
  unfolding AllHold spots9 Rule9
  all9 r = r

  pub rule9 : AllHold (spots9 P v) → Rule9 P v
  unfolding AllHold spots9 Rule9
  rule9 a = a

  -- ---- 10

  pub all10 : Rule10 P v → AllHold (spots10 P v)
  unfolding AllHold spots10 Rule10
  all10 r = ((λ u h. when-all (used (user v u)) _ (r.0 u h)), r.1)

  pub rule10 : AllHold (spots10 P v) → Rule10 P v
  unfolding AllHold spots10 Rule10
  rule10 a = ((λ u h l. when-hold (used (user v u)) _ (a.0 u h) l), a.1)

-- ---- 4, 6

-- two of a row whose later ones are unlike all earlier ones are unlike
module _ (Used : ℕ → Type 0) (Same : ℕ → ℕ → Type 0) (turn : (a b : ℕ) → Same a b → Same b a) (new : (b : ℕ) → b < 256 → Used b → (a : ℕ) → a < b → Used a → Same a b → ⊥) where
  one_of : (a b : ℕ) → a < 256 → b < 256 → Used a → Used b → Same a b → a ≡ b
  one_of a b h l p q s = elim (ℕ_discrete a b) [
    | yes e ↦ e
    | no ne ↦ elim (dec_lt a b) [
      | yes m ↦ absurd (new b l q a m p s)
      | no m ↦ absurd (new a h p b (omega arith) q (turn a b s))
    ]
  ]

module _ (ten : Bool) (v : Vol) where
  pub all4 : Rule4Over stored ten (user v) → AllHold (spots4 ten v)
  unfolding AllHold spots4 user_spots Rule4Over
  all4 r u h = when-all (used (user v u)) (user_spots ten v u) (λ l.
      let o = r.0 u h l in ((o.name, λ a m k s. let e : a ≡ u = r.1 a u (omega arith) h k l s in omega arith), (o.within, o.own)))

  pub rule4 : AllHold (spots4 ten v) → Rule4Over stored ten (user v)
  unfolding AllHold spots4 user_spots Rule4Over
  rule4 a = (
    (λ u h l. let o = when-hold (used (user v u)) (user_spots ten v u) (a u h) l in record { own = o.1.1; name = o.0.0; within = o.1.0 }),
    one_of (λ u. 0 < used (user v u)) (λ x y. SameName (user v x) (user v y)) (λ x y. sym)
        (λ b h l. (when-hold (used (user v b)) (user_spots ten v b) (a b h) l).0.1),
  )

module _ (v : Vol) where
  pub all6 : Rule6 (user v) (object v) → AllHold (spots6 v)
  unfolding AllHold spots6 object_spots Rule6Over
  all6 r u h f l = when-all (used (object v (file_entry u f))) (object_spots v u f (file_entry u f)) (λ m.
      let o = r.0 u f h l m in
      (o.owner, ((o.name, λ a i k s. let e : a ≡ f = r.1 u a f h (omega arith) l k m s in omega arith), (o.type, (o.whose, o.number)))))

  pub rule6 : AllHold (spots6 v) → Rule6 (user v) (object v)
  unfolding AllHold spots6 object_spots Rule6Over
  rule6 a = (
    (λ u f h l m. let o = when-hold (used (object v (file_entry u f))) (object_spots v u f (file_entry u f)) (a u h f l) m in
        record { owner = o.0; whose = o.1.1.1.0; number = o.1.1.1.1; name = o.1.0.0; type = o.1.1.0 }),
    λ u x y h. one_of (λ f. 0 < used (object v (file_entry u f))) (λ i j. SameFile (object v (file_entry u i)) (object v (file_entry u j)))
        (λ i j. SameFile-sym (object v (file_entry u i)) (object v (file_entry u j)))
        (λ b l m. (when-hold (used (object v (file_entry u b))) (object_spots v u b (file_entry u b)) (a u h b l) m).1.0.1) x y,
  )
