-- From a rule that is broken and what its finder found to what refusal 3 tells. Assumes nothing.
use mathlib.Core.Path.{◌≡◌, refl, sym, ap, subst}
use mathlib.Core.Bool.{Bool}
use mathlib.Core.List.{List}
use Prim.Native.Nat.{ℕ, ◌≤◌, ◌<◌}
use native.Mathlib.Decide.{dec_lt}
use native.Mathlib.Omega.{arith}
use Rattle.book.specs.Words.{Vol, vol}
use Rattle.book.specs.Image.{pages}
use Rattle.book.specs.Pointers.{page, bit_pointer}
use Rattle.bits.specs.File.{BitsAt}
use Rattle.bits.proofs.Places.{bits_at}
use Rattle.book.specs.Holders.{holders}
use Rattle.book.specs.Rows.{Lowest}
use Rattle.book.specs.Rules.{rules_of}
use Rattle.book.specs.Spots.{Spots, at, AllHold, First, nth}
use Rattle.book.specs.Places.{spots1, spots2, spots3, spots4, spots5, spots6, spots7, spots8, spots9, spots10, spots_of}
use Rattle.book.specs.Pair.{FirstTwo}
use Rattle.book.specs.Broken.{BrokenBy, PairFor}
use Rattle.book.specs.declared.Place.{Place}
use Rattle.book.specs.declared.Break.{Break}
use Rattle.book.specs.declared.Holder.{Holder}
use Rattle.laws.specs.Count.Reach.{rules-within}
use Rattle.laws.specs.Place.Lowest.{above1, above2, above3, above5, above7, fails1, fails2, fails3, fails4, fails5, fails6, fails7, fails8, fails9, fails10}
use Rattle.laws.specs.Place.Rules.{rule1, rule2, rule3, rule4, rule5, rule6, rule8, rule9, rule10}
use Rattle.laws.specs.Place.Rule7.{rule7}
use Rattle.heads.proofs.Judged.{asked-holds}
use Rattle.walk.specs.Held.{Volume}
use Rattle.walk.proofs.Short.{rules-short}
use Rattle.std.proofs.Common.{Option, None, Some}
use Rattle.places.specs.Found.{Finds}
use Rattle.places.specs.Tell.{Breaks, place_of, plainly}

-- where not all places of a row hold, the one found is the first
found_first : (s : Spots) (f : Option Place) → Finds s f → (AllHold s → ⊥) → First s (place_of f)
found_first s None d n = absurd (n d)
found_first s (Some q) d n = d

module _ (img : List ℕ) (ten : Bool) (r : ℕ) (B : Breaks img ten r) where
  abbrev P : ℕ
  P = pages img

  abbrev v : Vol
  v = vol img

  -- a rule other than 8
  plainly-at : (k : ℕ) → r ≡ k → (k ≡ 8 → ⊥) → (f : Option Place) → First (spots_of ten P v k) (place_of f) → (b : Break) → b ≡ plainly k f → BrokenBy ten P v b
  unfolding PairFor
  plainly-at k e ne f d b q = subst (λ (x : Break). BrokenBy ten P v x) (sym q)
      record { rule = subst (Lowest (rules_of ten P v)) e B.lowest; place = d; pair = (λ h. absurd (ne h), λ h. (refl, refl)) }

  module _ (f : Option Place) (b : Break) where
    pub told1 : r ≡ 1 → Finds (spots1 P v) f → b ≡ plainly 1 f → BrokenBy ten P v b
    unfolding spots_of nth
    told1 e d = plainly-at 1 e (λ h. omega (arith, h)) f (found_first (spots1 P v) f d (λ a. fails1 ten P v r B.lowest e (rule1 P v a))) b

    pub told2 : r ≡ 2 → Finds (spots2 P v) f → b ≡ plainly 2 f → BrokenBy ten P v b
    unfolding spots_of nth
    told2 e d = plainly-at 2 e (λ h. omega (arith, h)) f (found_first (spots2 P v) f d (λ a. fails2 ten P v r B.lowest e (rule2 P v a))) b

    pub told3 : r ≡ 3 → Finds (spots3 P v) f → b ≡ plainly 3 f → BrokenBy ten P v b
    unfolding spots_of nth
    told3 e d = plainly-at 3 e (λ h. omega (arith, h)) f (found_first (spots3 P v) f d (λ a. fails3 ten P v r B.lowest e (rule3 P v a))) b

    pub told4 : r ≡ 4 → Finds (spots4 ten v) f → b ≡ plainly 4 f → BrokenBy ten P v b
    unfolding spots_of nth
    told4 e d = plainly-at 4 e (λ h. omega (arith, h)) f (found_first (spots4 ten v) f d (λ a. fails4 ten P v r B.lowest e (rule4 ten v a))) b

    pub told5 : r ≡ 5 → Finds (spots5 P v) f → b ≡ plainly 5 f → BrokenBy ten P v b
    unfolding spots_of nth
    told5 e d = plainly-at 5 e (λ h. omega (arith, h)) f
        (found_first (spots5 P v) f d (λ a. fails5 ten P v r B.lowest e (rule5 P v (omega (arith, B.whole.least)) (above2 ten P v r B.lowest (omega arith)).0 a))) b

    pub told6 : r ≡ 6 → Finds (spots6 v) f → b ≡ plainly 6 f → BrokenBy ten P v b
    unfolding spots_of nth
    told6 e d = plainly-at 6 e (λ h. omega (arith, h)) f (found_first (spots6 v) f d (λ a. fails6 ten P v r B.lowest e (rule6 v a))) b

    pub told7 : r ≡ 7 → Finds (spots7 P v) f → b ≡ plainly 7 f → BrokenBy ten P v b
    unfolding spots_of nth
    told7 e d = plainly-at 7 e (λ h. omega (arith, h)) f (found_first (spots7 P v) f d (λ a. fails7 ten P v r B.lowest e (rule7 P v a))) b

    pub told9 : r ≡ 9 → Finds (spots9 P v) f → b ≡ plainly 9 f → BrokenBy ten P v b
    unfolding spots_of nth
    told9 e d = plainly-at 9 e (λ h. omega (arith, h)) f (found_first (spots9 P v) f d (λ a. fails9 ten P v r B.lowest e (asked-holds ten _ (rule9 P v a)))) b

    pub told10 : r ≡ 10 → Finds (spots10 P v) f → b ≡ plainly 10 f → BrokenBy ten P v b
    unfolding spots_of nth
    told10 e d = plainly-at 10 e (λ h. omega (arith, h)) f (found_first (spots10 P v) f d (λ a. fails10 ten P v r B.lowest e (asked-holds ten _ (rule10 P v a)))) b

  -- ---- rule 8

  pub first-held : r ≡ 8 → (f : Option Place) → Finds (spots8 P v) f → (q : Place) → q ≡ place_of f → First (spots8 P v) q
  first-held e f d q i = subst (First (spots8 P v)) (sym i) (found_first (spots8 P v) f d (λ a. fails8 ten P v r B.lowest e (rule8 P v a)))

  -- its place is a page of the image that two hold
  pub held_place : (q : Place) → First (spots8 P v) q → (q.page < P) × (2 ≤ holders P v q.page) × (q.word ≡ 0)
  unfolding First spots8
  held_place q (p, h, below, (e, n)) = (
    subst (λ (x : Place). x.page < P) (sym e) h,
    subst (λ (x : Place). 2 ≤ holders P v x.page) (sym e) (elim (dec_lt 1 (holders P v p)) [ yes l ↦ l | no l ↦ absurd (n (omega arith)) ]),
    ap (λ (x : Place). x.word) e,
  )

  pub told8 : r ≡ 8 → (q : Place) → First (spots8 P v) q → (g h : Holder) → FirstTwo P v q.page g h → BrokenBy ten P v (record { rule = 8; place = at q.page 0; first = g; second = h })
  unfolding spots_of nth PairFor
  told8 e q d g h t = record {
    rule = subst (Lowest (rules_of ten P v)) e B.lowest;
    place = subst (λ (w : ℕ). First (spots8 P v) (at q.page w)) (held_place q d).2 d;
    pair = (λ i. t, λ n. absurd (n refl));
  }

  -- ---- the image that the lower rules leave

  pub breaks-volume : 7 < r → Volume img
  breaks-volume h =
      let l = B.lowest in
      let a = (above1 ten P v r l (omega arith)).0 in let b = (above2 ten P v r l (omega arith)).0 in let c = (above3 ten P v r l (omega arith)).0 in
      let d = (above5 ten P v r l (omega arith)).0 in let e = (above7 ten P v r l h).0 in
      record { whole = B.whole; within = rules-within P v a b c d e; short = rules-short P v b c d e }

  -- where the bit file is
  pub bits_of : 1 < r → (b : ℕ) → b ≡ page (v 0) bit_pointer → BitsAt P v b
  bits_of h b e = subst (BitsAt P v) (sym e) (bits_at P v (above1 ten P v r B.lowest h).0)
