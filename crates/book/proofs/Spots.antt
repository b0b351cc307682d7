-- A row of places has one first place that fails, and none where all hold. Assumes nothing.
use Rattle.std.specs.Prelude.{◌≡◌, ℕ}
use Rattle.std.proofs.Common.{sym, ◌∙◌, subst, inl, inr, arith}
use Rattle.std.proofs.Math.Decide.{dec_lt, ℕ_discrete}
use Rattle.book.specs.declared.Place.{Place}
use Rattle.book.specs.Spots.{Spots, none, spot, ◌then◌, each, AllHold, First}

-- where all hold there is no first place
pub hold-none : (s : Spots) → AllHold s → (q : Place) → First s q → ⊥
unfolding AllHold First
hold-none (spot p A) a q f = f.1 a
hold-none (s then t) a q (inl f) = hold-none s a.0 q f
hold-none (s then t) a q (inr f) = hold-none t a.1 q f.1
hold-none (each n g) a q f = hold-none (g f.0) (a f.0 f.1) q f.3
hold-none none a q f = elim f [ ]

-- there is one first place
pub first_one : (s : Spots) (p q : Place) → First s p → First s q → p ≡ q
unfolding First
first_one (spot o A) p q a b = a.0 ∙ sym b.0
first_one (s then t) p q (inl a) (inl b) = first_one s p q a b
first_one (s then t) p q (inl a) (inr b) = absurd (hold-none s b.0 p a)
first_one (s then t) p q (inr a) (inl b) = absurd (hold-none s a.0 q b)
first_one (s then t) p q (inr a) (inr b) = first_one t p q a.1 b.1
first_one (each n g) p q a b = elim (ℕ_discrete a.0 b.0) [
  | yes e ↦ first_one (g b.0) p q (subst (λ (i : ℕ). First (g i) p) e a.3) b.3
  | no ne ↦ elim (dec_lt a.0 b.0) [
    | yes l ↦ absurd (hold-none (g a.0) (b.2 a.0 l) p a.3)
    | no l ↦ absurd (hold-none (g b.0) (a.2 b.0 (omega arith)) q b.3)
  ]
]
first_one none p q a b = elim a [ ]
