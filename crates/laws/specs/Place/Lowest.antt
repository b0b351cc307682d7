-- The lowest broken rule: all lower ones hold, and it does not. Assumes nothing.
use Rattle.std.specs.Prelude.{◌≡◌, Bool, ℕ, ◌<◌}
use Rattle.std.proofs.Math.Logic.{inl, inr}
use native.Mathlib.Omega.{arith}
use Rattle.book.specs.Words.{Vol}
use Rattle.book.specs.Entries.{user, object}
use Rattle.book.specs.Rows.{Rows, end, row, Lowest, Counted, lowest-counted}
use Rattle.book.specs.Rules.{Asked, Rule1, Rule2, Rule3, Rule4Over, Rule5, Rule6, Rule7, Rule8, Rule9, Rule10, rules_of}
use Rattle.book.specs.Names.{stored}

-- ---- in any table whose numbers ascend

-- n stands before all rows
unfoldable Past : Rows → ℕ → Type 0
Past end n = Unit {0}
Past (row k A t) n = (n < k) × Past t n

past-none : (t : Rows) (n : ℕ) → Lowest t n → Past t n → ⊥
unfolding Lowest Past
past-none (row k A t) n (inl e) p = omega (arith, e.0, p.0)
past-none (row k A t) n (inr q) p = past-none t n q.1 p.1
past-none end n x'' p = elim x'' [ ]

-- a row before the number holds, and so on from the next
over : (k n : ℕ) (A : Type 0) (t : Rows) → Lowest (row k A t) n → k < n → A × Lowest t n
unfolding Lowest
over k n A t (inl e) h = absurd (omega (arith, e.0))
over k n A t (inr q) h = q

-- the row of the number does not
here : (k n : ℕ) (A : Type 0) (t : Rows) → Lowest (row k A t) n → n ≡ k → Past t n → A → ⊥
unfolding Lowest
here k n A t (inl e) q p a = e.1 a
here k n A t (inr r) q p a = past-none t n r.1 p

-- ---- of the rules judged

module _ (ten : Bool) (P : ℕ) (v : Vol) where
  abbrev rows10 : Rows
  rows10 = row 10 (Asked ten (Rule10 P v)) end

  abbrev rows9 : Rows
  rows9 = row 9 (Asked ten (Rule9 P v)) rows10

  abbrev rows8 : Rows
  rows8 = row 8 (Rule8 P v) rows9

  abbrev rows7 : Rows
  rows7 = row 7 (Rule7 P v) rows8

  abbrev rows6 : Rows
  rows6 = row 6 (Rule6 (user v) (object v)) rows7

  abbrev rows5 : Rows
  rows5 = row 5 (Rule5 P v) rows6

  abbrev rows4 : Rows
  rows4 = row 4 (Rule4Over stored ten (user v)) rows5

  abbrev rows3 : Rows
  rows3 = row 3 (Rule3 P v) rows4

  abbrev rows2 : Rows
  rows2 = row 2 (Rule2 P v) rows3

  module _ (r : ℕ) (l : Lowest (rules_of ten P v) r) where
    first : Lowest (row 1 (Rule1 P v) rows2) r
    unfolding rules_of
    first = l

    -- those below it hold
    pub above1 : 1 < r → Rule1 P v × Lowest rows2 r
    above1 h = over 1 r (Rule1 P v) rows2 first h

    pub above2 : 2 < r → (Rule2 P v) × Lowest rows3 r
    above2 h = over 2 r (Rule2 P v) rows3 (above1 (omega arith)).1 h

    pub above3 : 3 < r → (Rule3 P v) × Lowest rows4 r
    above3 h = over 3 r (Rule3 P v) rows4 (above2 (omega arith)).1 h

    pub above4 : 4 < r → (Rule4Over stored ten (user v)) × Lowest rows5 r
    above4 h = over 4 r (Rule4Over stored ten (user v)) rows5 (above3 (omega arith)).1 h

    pub above5 : 5 < r → (Rule5 P v) × Lowest rows6 r
    above5 h = over 5 r (Rule5 P v) rows6 (above4 (omega arith)).1 h

    pub above6 : 6 < r → (Rule6 (user v) (object v)) × Lowest rows7 r
    above6 h = over 6 r (Rule6 (user v) (object v)) rows7 (above5 (omega arith)).1 h

    pub above7 : 7 < r → (Rule7 P v) × Lowest rows8 r
    above7 h = over 7 r (Rule7 P v) rows8 (above6 (omega arith)).1 h

    pub above8 : 8 < r → (Rule8 P v) × Lowest rows9 r
    above8 h = over 8 r (Rule8 P v) rows9 (above7 (omega arith)).1 h

    pub above9 : 9 < r → (Asked ten (Rule9 P v)) × Lowest rows10 r
    above9 h = over 9 r (Asked ten (Rule9 P v)) rows10 (above8 (omega arith)).1 h

    -- it does not
    pub fails1 : r ≡ 1 → Rule1 P v → ⊥
    unfolding Past
    fails1 e = here 1 r (Rule1 P v) rows2 first e (omega arith, (omega arith, (omega arith, (omega arith, (omega arith, (omega arith, (omega arith, (omega arith, (omega arith, tt)))))))))

    pub fails2 : r ≡ 2 → Rule2 P v → ⊥
    unfolding Past
    fails2 e = here 2 r (Rule2 P v) rows3 (above1 (omega arith)).1 e (omega arith, (omega arith, (omega arith, (omega arith, (omega arith, (omega arith, (omega arith, (omega arith, tt))))))))

    pub fails3 : r ≡ 3 → Rule3 P v → ⊥
    unfolding Past
    fails3 e = here 3 r (Rule3 P v) rows4 (above2 (omega arith)).1 e (omega arith, (omega arith, (omega arith, (omega arith, (omega arith, (omega arith, (omega arith, tt)))))))

    pub fails4 : r ≡ 4 → Rule4Over stored ten (user v) → ⊥
    unfolding Past
    fails4 e = here 4 r (Rule4Over stored ten (user v)) rows5 (above3 (omega arith)).1 e (omega arith, (omega arith, (omega arith, (omega arith, (omega arith, (omega arith, tt))))))

    pub fails5 : r ≡ 5 → Rule5 P v → ⊥
    unfolding Past
    fails5 e = here 5 r (Rule5 P v) rows6 (above4 (omega arith)).1 e (omega arith, (omega arith, (omega arith, (omega arith, (omega arith, tt)))))

    pub fails6 : r ≡ 6 → Rule6 (user v) (object v) → ⊥
    unfolding Past
    fails6 e = here 6 r (Rule6 (user v) (object v)) rows7 (above5 (omega arith)).1 e (omega arith, (omega arith, (omega arith, (omega arith, tt))))

    pub fails7 : r ≡ 7 → Rule7 P v → ⊥
    unfolding Past
    fails7 e = here 7 r (Rule7 P v) rows8 (above6 (omega arith)).1 e (omega arith, (omega arith, (omega arith, tt)))

    pub fails8 : r ≡ 8 → Rule8 P v → ⊥
    unfolding Past
    fails8 e = here 8 r (Rule8 P v) rows9 (above7 (omega arith)).1 e (omega arith, (omega arith, tt))

    pub fails9 : r ≡ 9 → Asked ten (Rule9 P v) → ⊥
    unfolding Past
    fails9 e = here 9 r (Asked ten (Rule9 P v)) rows10 (above8 (omega arith)).1 e (omega arith, tt)

    pub fails10 : r ≡ 10 → Asked ten (Rule10 P v) → ⊥
    unfolding Past
    fails10 e = here 10 r (Asked ten (Rule10 P v)) end (above9 (omega arith)).1 e tt

    -- and it is one of the ten
    pub least : 0 < r
    unfolding rules_of Counted
    least = lowest-counted (rules_of ten P v) r (omega arith, (omega arith, (omega arith, (omega arith, (omega arith, (omega arith, (omega arith, (omega arith, (omega arith, (omega arith, tt)))))))))) l

    pub most : 9 < r → r ≡ 10
    unfolding Lowest
    most h = elim (above9 h).1 [ inl e ↦ e.0 | inr q ↦ absurd q.1 ]
