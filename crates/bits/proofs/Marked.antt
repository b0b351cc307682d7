-- The marks, one page marked after another. Assumes nothing.
use mathlib.Core.Path.{◌≡◌, refl, sym, ap, ◌∙◌, subst}
use mathlib.Core.Logic.{◌≢◌}
use mathlib.Core.List.{List}
use mathlib.Core.Bool.{Bool, true, false, not}
use Prim.Native.Nat.{ℕ, zero, suc, ◌+◌, ◌*◌, ◌/◌, ◌%◌, ◌≤◌, ◌<◌}
use native.Mathlib.Decide.{ℕ_discrete}
use native.Mathlib.Omega.{arith}
use lib.ListN.{length, get_or, set, replicate, length-set, length-replicate}
use lib.Seq.{get_or-set_same, get_or-set_other}
use Rattle.sums.specs.Sum.{sum, is, is_same, is-other, sum-ext, sum-add, sum_is, sum-le-at, sum-const}
use Rattle.book.specs.Bits.{digit, to_digit}
use Rattle.book.specs.Written.{digit-le, digit-same, digit-other}
use Rattle.bits.specs.Marks.{marked, Unmarked, Newly, Marking}

pub marked-le : (m : List ℕ) (p : ℕ) → marked m p ≤ 1
unfolding marked
marked-le m p = digit-le (p % 16) (get_or m (p / 16) 0)

-- ---- no marks

digit-zero : (j : ℕ) → digit j 0 ≡ 0
unfolding digit
digit-zero zero = refl
digit-zero (suc j) = digit-zero j

zero-at : (n i : ℕ) → ◌≡◌ {A = ℕ} (get_or (replicate n 0) i 0) 0
zero-at zero i = refl
zero-at (suc n) zero = refl
zero-at (suc n) (suc i) = zero-at n i

pub no-marks : (P n : ℕ) → P ≤ 16 * n → Unmarked P (replicate n 0)
unfolding marked
no-marks P n e = record { room = omega (arith, length-replicate {A = ℕ} n 0); none = λ p. ap (digit (p % 16)) (zero-at n (p / 16)) ∙ digit-zero (p % 16) }

-- marks for more pages are marks for fewer
pub unmarked-for : (P N : ℕ) → P ≤ N → (m : List ℕ) → Unmarked N m → Unmarked P m
unmarked-for P N h m u = record { room = omega (arith, h, u.room); none = u.none }

-- ---- one mark

module _ (m : List ℕ) (p w : ℕ) (fits : p < 16 * length m) (new : marked m p ≡ 0) (made : w ≡ to_digit (p % 16) (get_or m (p / 16) 0) 1) where
  room : p / 16 < length m
  room = omega arith

  here : marked (set m (p / 16) w) p ≡ 1
  unfolding marked
  here = ap (digit (p % 16)) (get_or-set_same m (p / 16) w 0 room ∙ made) ∙ digit-same (p % 16) (get_or m (p / 16) 0) 1 (omega arith)

  there : (q : ℕ) → q ≢ p → marked (set m (p / 16) w) q ≡ marked m q
  unfolding marked
  there q ne = elim (ℕ_discrete (q / 16) (p / 16)) [
    | no d ↦ ap (digit (q % 16)) (get_or-set_other m (p / 16) (q / 16) w 0 d)
    | yes e ↦
        ap (λ (i : ℕ). digit (q % 16) (get_or (set m (p / 16) w) i 0)) e ∙ ap (digit (q % 16)) (get_or-set_same m (p / 16) w 0 room ∙ made)
        ∙ digit-other (q % 16) (p % 16) (get_or m (p / 16) 0) 1 (λ d. ne (omega arith)) (omega arith)
        ∙ ap (λ (i : ℕ). digit (q % 16) (get_or m i 0)) (sym e)
  ]

  pub mark-new : Newly m p (set m (p / 16) w)
  mark-new = record {
    new = new;
    more = λ q. elim (ℕ_discrete q p) [
      | yes e ↦ subst (λ (x : ℕ). marked (set m (p / 16) w) x ≡ marked m x + is p x) (sym e) (omega (arith, here, is_same p))
      | no ne ↦ omega (arith, there q ne, is-other p q (λ e. ne (sym e)))
    ];
    kept = length-set m (p / 16) w;
  }

-- ---- how many

module _ (P : ℕ) (m : List ℕ) (p : ℕ) (m' : List ℕ) (d : Newly m p m') (h : p < P) where
  pub marks-more : sum P (marked m') ≡ sum P (marked m) + 1
  marks-more =
      sum-ext P (marked m') (λ q. marked m q + is p q) (λ q l. d.more q) ∙ sum-add P (marked m) (λ q. is p q) ∙ ap (λ (x : ℕ). sum P (marked m) + x) (sum_is P p h)

  -- while a page is not marked, there are fewer marks than pages
  pub marks-room : sum P (marked m) < P
  marks-room = omega (arith, sum-le-at P (marked m) (λ q. 1) p 1 h (λ q l. marked-le m q) (omega (arith, d.new)), sum-const P 1)

-- a page that is newly marked is not one that was
pub new-other : (m : List ℕ) (p : ℕ) (m' : List ℕ) → Newly m p m' → marked m 0 ≡ 1 → 0 < p
new-other m zero m' d h = absurd (let z : ⊥ = omega (arith, d.new, h) in z)
new-other m (suc p) m' d h = omega arith

-- ---- after a test of the answer

module _ (m : List ℕ) (p : ℕ) (m' : List ℕ) (r : Bool) (d : Marking m p m' r) where
  pub marking-new : not r ≡ false → Newly m p m'
  marking-new e = go r d e
    where
      go : (s : Bool) → Marking m p m' s → not s ≡ false → Newly m p m'
      go true k e = k
      go false k e = let z : ◌≡◌ {A = ℕ} 0 1 = cc in absurd (omega arith)

  pub marking-old : not r ≡ true → (marked m p ≡ 1) × (m' ≡ m)
  marking-old e = go r d e
    where
      go : (s : Bool) → Marking m p m' s → not s ≡ true → (marked m p ≡ 1) × (m' ≡ m)
      go false k e = k
      go true k e = let z : ◌≡◌ {A = ℕ} 0 1 = cc in absurd (omega arith)
