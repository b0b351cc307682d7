-- Pages met, one after the other. Assumes nothing.
use mathlib.Core.Path.{◌≡◌, refl, sym, ap, ◌∙◌, subst}
use mathlib.Core.Bool.{Bool, true, false}
use mathlib.Core.List.{List}
use Prim.Native.Nat.{ℕ, zero, suc, ◌+◌, ◌*◌, ◌≤◌, ◌<◌}
use native.Mathlib.Decide.{ℕ_discrete}
use native.Mathlib.Numerals.{add-one}
use native.Mathlib.Omega.{arith}
use Rattle.sums.specs.Sum.{sum, is, is_same, is-other, sum-suc}
use Rattle.book.specs.Words.{Vol}
use Rattle.book.specs.Holders.{hit}
use Rattle.laws.specs.Tree.Slot.{hit_same, hit_other}
use Rattle.bits.specs.Marks.{marked, Newly, Marking}
use Rattle.bits.proofs.Marked.{marked-le}
use Rattle.places.specs.Low.{under, opened, Opens, Opening, Seen, Met}

-- ---- products

more-mul : (n x : ℕ) → (n + 1) * x ≡ n * x + x
more-mul n zero = omega arith
more-mul n (suc x) = omega (arith, more-mul n x)

twice-none : (n x : ℕ) → 2 ≤ n → n * x ≤ 1 → x ≡ 0
twice-none n zero h l = refl
twice-none n (suc x) h l = absurd (let e : n * suc x ≡ n + n * x = omega arith in let r : ⊥ = omega arith in r)

hit-is : (p x : ℕ) → 0 < x → hit p x ≡ is x p
unfolding hit
hit-is p zero l = absurd (omega arith)
hit-is p (suc x) l = refl

-- ---- opened blocks

is_at : (x y : ℕ) → x ≡ y → is x y ≡ 1
is_at x y e = ap (is x) (sym e) ∙ is_same x

-- one of block t's two marks is new
pub opens_by : (a : List ℕ) (t i : ℕ) (a' : List ℕ) → i ≤ 1 → Newly a (2 * t + i) a' → Opens a t a'
opens_by a t i a' h d = record {
  more = λ u. omega (arith, d.more (2 * u), d.more (2 * u + 1), two-marks t i u h);
  kept = d.kept;
}
  where
    two-marks : (t i u : ℕ) → i ≤ 1 → is (2 * t + i) (2 * u) + is (2 * t + i) (2 * u + 1) ≡ is t u
    two-marks t zero u h = elim (ℕ_discrete t u) [
      | yes e ↦ subst (λ (x : ℕ). is (2 * t + 0) (2 * x) + is (2 * t + 0) (2 * x + 1) ≡ is t x) e (omega (arith, is_same t, is_at (2 * t + 0) (2 * t) (omega arith), is-other (2 * t + 0) (2 * t + 1) (λ q. omega arith)))
      | no ne ↦ omega (arith, is-other t u ne, is-other (2 * t + 0) (2 * u) (λ q. ne (omega arith)), is-other (2 * t + 0) (2 * u + 1) (λ q. omega arith))
    ]
    two-marks t (suc i) u h = elim (ℕ_discrete t u) [
      | yes e ↦ subst (λ (x : ℕ). is (2 * t + suc i) (2 * x) + is (2 * t + suc i) (2 * x + 1) ≡ is t x) e (omega (arith, is_same t, is-other (2 * t + suc i) (2 * t) (λ q. omega arith), is_at (2 * t + suc i) (2 * t + 1) (omega arith)))
      | no ne ↦ omega (arith, is-other t u ne, is-other (2 * t + suc i) (2 * u) (λ q. omega arith), is-other (2 * t + suc i) (2 * u + 1) (λ q. ne (omega arith)))
    ]

-- block t's first mark was made, or its second where the first was there; where both were, nothing is done
pub opening-first : (a : List ℕ) (t : ℕ) (a' : List ℕ) (r : Bool) → Marking a (2 * t) a' r → r ≡ true → Opening a t a' true
opening-first a t a' true d e = opens_by a t 0 a' (omega arith) (subst (λ (p : ℕ). Newly a p a') (let q : 2 * t ≡ 2 * t + 0 = omega arith in q) d)
opening-first a t a' false d e = let z : ◌≡◌ {A = ℕ} 0 1 = cc in absurd (omega arith)

pub opening-second : (a : List ℕ) (t : ℕ) (a' : List ℕ) (r : Bool) → Marking a (2 * t) a' r → r ≡ false → (a'' : List ℕ) (s : Bool) → Marking a' (2 * t + 1) a'' s → Opening a t a'' s
opening-second a t a' true d e a'' s j = let z : ◌≡◌ {A = ℕ} 0 1 = cc in absurd (omega arith)
opening-second a t a' false d e a'' s j = go s (subst (λ (x : List ℕ). Marking x (2 * t + 1) a'' s) d.1 j)
  where
    go : (s : Bool) → Marking a (2 * t + 1) a'' s → Opening a t a'' s
    go true n = opens_by a t 1 a'' (omega arith) n
    go false o = (omega (arith, d.0, o.0), o.1)

-- where block t is opened once more, what was weighed for each opening is weighed for one more
opens-bound : (a : List ℕ) (t : ℕ) (a' : List ℕ) → Opens a t a' → (w : ℕ → ℕ) (n : ℕ) → opened a t * w t ≤ n → (u : ℕ) → opened a u * w u ≤ n + w t → opened a' u * w u ≤ n + w t
opens-bound a t a' o w n h u l = elim (ℕ_discrete u t) [
  | yes e ↦
      let q : opened a' t ≡ opened a t + 1 = omega (arith, o.more t, is_same t) in
      subst (λ (x : ℕ). opened a' x * w x ≤ n + w t) (sym e) (subst (λ (y : ℕ). y * w t ≤ n + w t) (sym q) (omega (arith, more-mul (opened a t) (w t), h)))
  | no ne ↦
      let q : opened a' u ≡ opened a u = omega (arith, o.more u, is-other t u (λ e. ne (sym e))) in
      subst (λ (y : ℕ). y * w u ≤ n + w t) (sym q) l
]

-- ---- steps

module _ (P : ℕ) (v : Vol) where
  module _ (m a b : List ℕ) (c : ℕ) where
    -- pages that are not below c change nothing
    pub met-past : (w : ℕ → ℕ) → ((f : ℕ → ℕ) → Seen P v m a b c f → (p : ℕ) → p < c → w p ≡ 0) → Met P v m a b c w m a b c
    unfolding Met
    met-past w z f s = record {
      below = λ p h. omega (arith, s.below p h, z f s p h);
      twice = λ h. omega (arith, s.twice h);
      index = λ t p h. omega (arith, s.index t p h);
      subindex = λ t p h. omega (arith, s.subindex t p h);
    }

    pub met-none : (w : ℕ → ℕ) → ((p : ℕ) → w p ≡ 0) → Met P v m a b c w m a b c
    met-none w z = met-past w (λ f s p h. z p)

    pub met-same : (w x : ℕ → ℕ) → ((p : ℕ) → w p ≡ x p) → (m' a' b' : List ℕ) (c' : ℕ) → Met P v m a b c w m' a' b' c' → Met P v m a b c x m' a' b' c'
    unfolding Met
    met-same w x e m' a' b' c' k f s = record {
      below = λ p h. omega (arith, (k f s).below p h, e p);
      twice = λ h. omega (arith, (k f s).twice h, e c');
      index = λ t p h. omega (arith, (k f s).index t p h, e p);
      subindex = λ t p h. omega (arith, (k f s).subindex t p h, e p);
    }

    pub met-then : (w x : ℕ → ℕ) (m' a' b' : List ℕ) (c' : ℕ) (m'' a'' b'' : List ℕ) (c'' : ℕ) → Met P v m a b c w m' a' b' c' → Met P v m' a' b' c' x m'' a'' b'' c'' → Met P v m a b c (λ p. w p + x p) m'' a'' b'' c''
    unfolding Met
    met-then w x m' a' b' c' m'' a'' b'' c'' k j f s = let r = j (λ p. f p + w p) (k f s) in record {
      below = λ p h. omega (arith, r.below p h);
      twice = λ h. omega (arith, r.twice h);
      index = λ t p h. omega (arith, r.index t p h);
      subindex = λ t p h. omega (arith, r.subindex t p h);
    }

    -- a turn of a loop
    pub met-turn : (x : ℕ → ℕ → ℕ) (i : ℕ) (m' a' b' : List ℕ) (c' : ℕ) (m'' a'' b'' : List ℕ) (c'' : ℕ) → Met P v m a b c (λ p. sum i (λ j. x j p)) m' a' b' c' → Met P v m' a' b' c' (x i) m'' a'' b'' c'' → Met P v m a b c (λ p. sum (i + 1) (λ j. x j p)) m'' a'' b'' c''
    met-turn x i m' a' b' c' m'' a'' b'' c'' k j =
        met-same (λ p. sum i (λ j. x j p) + x i p) (λ p. sum (i + 1) (λ j. x j p)) (λ p. sym (ap (λ (n : ℕ). sum n (λ j. x j p)) (add-one i) ∙ sum-suc i (λ j. x j p))) m'' a'' b'' c''
        (met-then (λ p. sum i (λ j. x j p)) (x i) m' a' b' c' m'' a'' b'' c'' k j)

    -- ---- one page

    -- marked for the first time
    pub met-new : (q : ℕ) (m' : List ℕ) → 0 < q → Newly m q m' → Met P v m a b c (λ p. hit p q) m' a b c
    unfolding Met
    met-new q m' h d f s = record {
      below = λ p l. omega (arith, d.more p, s.below p l, hit-is p q h);
      twice = λ l. omega (arith, s.twice l);
      index = λ t p l. omega (arith, s.index t p l);
      subindex = λ t p l. omega (arith, s.subindex t p l);
    }

    -- marked before
    pub met-old : (q : ℕ) → 0 < q → q < c → marked m q ≡ 1 → Met P v m a b c (λ p. hit p q) m a b q
    unfolding Met
    met-old q h l e f s = record {
      below = λ p j. omega (arith, s.below p (omega arith), hit_other p q (λ i. omega arith));
      twice = λ j. omega (arith, s.below q l, hit_same q h);
      index = λ t p j. omega (arith, s.index t p j);
      subindex = λ t p j. omega (arith, s.subindex t p j);
    }

    -- ---- blocks

    -- one that was opened twice: what is below it is not below c
    pub met-skip : (t : ℕ) → t < P → 2 ≤ opened a t → Met P v m a b c (under v 0 t) m a b c
    met-skip t h n = met-past (under v 0 t) (λ f s p l. twice-none (opened a t) (under v 0 t p) n (omega (arith, s.index t p h, s.below p l, marked-le m p)))

    pub met-skip₂ : (t : ℕ) → t < P → 2 ≤ opened b t → Met P v m a b c (under v 1 t) m a b c
    met-skip₂ t h n = met-past (under v 1 t) (λ f s p l. twice-none (opened b t) (under v 1 t p) n (omega (arith, s.subindex t p h, s.below p l, marked-le m p)))

    -- one that is opened
    pub met-open : (t : ℕ) (a' : List ℕ) → Opens a t a' → t < P → (m' : List ℕ) (c' : ℕ) → Met P v m a b c (under v 0 t) m' a b c' → Met P v m a b c (under v 0 t) m' a' b c'
    unfolding Met
    met-open t a' o h m' c' k f s = let r = k f s in record {
      below = r.below;
      twice = r.twice;
      index = λ u p l. opens-bound a t a' o (λ x. under v 0 x p) (f p) (s.index t p h) u (r.index u p l);
      subindex = r.subindex;
    }

    pub met-open₂ : (t : ℕ) (b' : List ℕ) → Opens b t b' → t < P → (m' a' : List ℕ) (c' : ℕ) → Met P v m a b c (under v 1 t) m' a' b c' → Met P v m a b c (under v 1 t) m' a' b' c'
    unfolding Met
    met-open₂ t b' o h m' a' c' k f s = let r = k f s in record {
      below = r.below;
      twice = r.twice;
      index = r.index;
      subindex = λ u p l. opens-bound b t b' o (λ x. under v 1 x p) (f p) (s.subindex t p h) u (r.subindex u p l);
    }
