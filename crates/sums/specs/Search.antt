-- Searches below a bound, over a test whose value is a number: 0 is no, anything else yes. Assumes nothing.
use Rattle.std.specs.Prelude.{◌≡◌, refl, ℕ, zero, suc, ◌-◌, ◌≤◌, ◌<◌}
use Rattle.std.proofs.Common.{sym, ap, ◌∙◌, zero-le, not-suc-le-zero, eq-zero-or-pos, le_of_suc-le-suc, inl, inr, arith}
use Rattle.std.proofs.Math.Decide.{ℕ_discrete}

-- the first if n is not 0, else the second
unfoldable pub pick : {A : Type 0} → ℕ → A → A → A
pick zero a b = b
pick (suc n) a b = a

-- 1 if m ≤ n, else 0
abbrev pub at_least : ℕ → ℕ → ℕ
at_least m n = 1 - (m - n)

-- 1 if f is yes at each i below n, else 0
unfoldable pub every : (ℕ → ℕ) → ℕ → ℕ
every f zero = 1
every f (suc n) = pick (f n) (every f n) 0

-- the lowest i below n at which f is yes, and n if there is none
unfoldable pub lowest : (ℕ → ℕ) → ℕ → ℕ
lowest f zero = 0
lowest f (suc n) = pick (f 0) 0 (suc (lowest (λ i. f (suc i)) n))

-- the highest i below n at which f is yes, and 0 if there is none
unfoldable pub highest : (ℕ → ℕ) → ℕ → ℕ
highest f zero = 0
highest f (suc n) = pick (f n) n (highest f n)

-- ---- laws

pub pick_yes : {A : Type 0} (n : ℕ) (a b : A) → 0 < n → pick n a b ≡ a
unfolding pick
pick_yes zero a b h = absurd (not-suc-le-zero h)
pick_yes (suc n) a b h = refl

pub pick_no : {A : Type 0} (n : ℕ) (a b : A) → n ≡ 0 → pick n a b ≡ b
unfolding pick
pick_no {A} n a b h = ap (λ (k : ℕ). pick {A = A} k a b) h

pub every-yes : (f : ℕ → ℕ) (n : ℕ) → ((i : ℕ) → i < n → 0 < f i) → every f n ≡ 1
unfolding every
every-yes f zero h = refl
every-yes f (suc n) h = pick_yes (f n) (every f n) 0 (h n (omega arith)) ∙ every-yes f n (λ i l. h i (omega arith))

pub every-at : (f : ℕ → ℕ) (n : ℕ) → 0 < every f n → (i : ℕ) → i < n → 0 < f i
unfolding every
every-at f zero h i l = absurd (not-suc-le-zero l)
every-at f (suc n) h i l = elim (eq-zero-or-pos (f n)) [
  | inl z ↦ absurd (let r : ⊥ = omega (arith, h, pick_no (f n) (every f n) 0 z) in r)
  | inr p ↦ elim (ℕ_discrete i n) [
    | yes e ↦ omega (arith, p, ap f e)
    | no ne ↦ every-at f n (omega (arith, h, pick_yes (f n) (every f n) 0 p)) i (omega arith)
  ]
]

-- the lowest is at i
pub lowest-at : (f : ℕ → ℕ) (n i : ℕ) → i < n → 0 < f i → ((j : ℕ) → j < i → f j ≡ 0) → lowest f n ≡ i
unfolding lowest
lowest-at f zero i h p z = absurd (not-suc-le-zero h)
lowest-at f (suc n) zero h p z = pick_yes (f 0) 0 _ p
lowest-at f (suc n) (suc i) h p z =
    pick_no (f 0) 0 _ (z 0 (omega arith)) ∙ ap suc (lowest-at (λ k. f (suc k)) n i (le_of_suc-le-suc h) p (λ j l. z (suc j) (omega arith)))

-- there is none
pub lowest-none : (f : ℕ → ℕ) (n : ℕ) → ((j : ℕ) → j < n → f j ≡ 0) → lowest f n ≡ n
unfolding lowest
lowest-none f zero z = refl
lowest-none f (suc n) z = pick_no (f 0) 0 _ (z 0 (omega arith)) ∙ ap suc (lowest-none (λ k. f (suc k)) n (λ j l. z (suc j) (omega arith)))

-- what it found, and what it passed
pub record Lowest (f : ℕ → ℕ) (n : ℕ) : Type 0 where
  pub most : lowest f n ≤ n
  pub there : lowest f n < n → 0 < f (lowest f n)
  pub passed : (j : ℕ) → j < lowest f n → f j ≡ 0

pub lowest-is : (f : ℕ → ℕ) (n : ℕ) → Lowest f n
unfolding lowest
lowest-is f zero = record { most = zero-le; there = λ h. absurd (not-suc-le-zero h); passed = λ j h. absurd (not-suc-le-zero h) }
lowest-is f (suc n) = elim (eq-zero-or-pos (f 0)) [
  | inr p ↦
      let e : lowest f (suc n) ≡ 0 = pick_yes (f 0) 0 _ p in
      record { most = omega (arith, e); there = λ h. omega (arith, p, ap f e); passed = λ j h. absurd (let r : ⊥ = omega (arith, e) in r) }
  | inl z ↦
      let g : ℕ → ℕ = λ i. f (suc i) in
      let e : lowest f (suc n) ≡ suc (lowest g n) = pick_no (f 0) 0 _ z in
      let r : Lowest g n = lowest-is g n in
      record {
        most = omega (arith, e, r.most);
        there = λ h. omega (arith, ap f e, r.there (omega (arith, e)));
        passed = λ j h. go j z (λ i l. r.passed i (omega (arith, e)));
      }
]
  where
    go : (j : ℕ) → f 0 ≡ 0 → ((i : ℕ) → suc i ≡ j → f (suc i) ≡ 0) → f j ≡ 0
    go zero z h = z
    go (suc j) z h = h j refl

-- if there is one at all, one is found
pub lowest-lt : (f : ℕ → ℕ) (n i : ℕ) → i < n → 0 < f i → lowest f n < n
lowest-lt f n i h p = elim (ℕ_discrete (lowest f n) n) [
  | yes e ↦ absurd (let r : ⊥ = omega (arith, p, (lowest-is f n).passed i (omega arith)) in r)
  | no ne ↦ omega (arith, (lowest-is f n).most)
]

-- the highest is at i
pub highest-at : (f : ℕ → ℕ) (n i : ℕ) → i < n → 0 < f i → ((j : ℕ) → i < j → j < n → f j ≡ 0) → highest f n ≡ i
unfolding highest
highest-at f zero i h p z = absurd (not-suc-le-zero h)
highest-at f (suc n) i h p z = elim (ℕ_discrete i n) [
  | yes e ↦ pick_yes (f n) n _ (omega (arith, p, ap f e)) ∙ sym e
  | no ne ↦ pick_no (f n) n _ (z n (omega arith) (omega arith)) ∙ highest-at f n i (omega arith) p (λ j a b. z j a (omega arith))
]

pub highest-none : (f : ℕ → ℕ) (n : ℕ) → ((j : ℕ) → j < n → f j ≡ 0) → highest f n ≡ 0
unfolding highest
highest-none f zero z = refl
highest-none f (suc n) z = pick_no (f n) n _ (z n (omega arith)) ∙ highest-none f n (λ j l. z j (omega arith))

-- there is none above 0
pub highest-low : (f : ℕ → ℕ) (n : ℕ) → ((j : ℕ) → 0 < j → j < n → f j ≡ 0) → highest f n ≡ 0
highest-low f n z = elim (ℕ_discrete n 0) [
  | yes e ↦ highest-none f n (λ j h. absurd (let r : ⊥ = omega arith in r))
  | no ne ↦ elim (eq-zero-or-pos (f 0)) [
    | inr p ↦ highest-at f n 0 (omega arith) p z
    | inl e ↦ highest-none f n (λ j h. elim (ℕ_discrete j 0) [ yes q ↦ ap f q ∙ e | no q ↦ z j (omega arith) h ])
  ]
]

-- what it found, and what it passed
pub record Highest (f : ℕ → ℕ) (n : ℕ) : Type 0 where
  pub there : 0 < highest f n → (highest f n < n) × (0 < f (highest f n))
  pub passed : (j : ℕ) → highest f n < j → j < n → f j ≡ 0

pub highest-is : (f : ℕ → ℕ) (n : ℕ) → Highest f n
unfolding highest
highest-is f zero = record { there = λ h. absurd (not-suc-le-zero h); passed = λ j h l. absurd (not-suc-le-zero l) }
highest-is f (suc n) = elim (eq-zero-or-pos (f n)) [
  | inr p ↦
      let e : highest f (suc n) ≡ n = pick_yes (f n) n _ p in
      record { there = λ h. (omega (arith, e), omega (arith, p, ap f e)); passed = λ j h l. absurd (let r : ⊥ = omega (arith, e) in r) }
  | inl z ↦
      let e : highest f (suc n) ≡ highest f n = pick_no (f n) n _ z in
      let r : Highest f n = highest-is f n in
      record {
        there = λ h. let q = r.there (omega (arith, e)) in (omega (arith, e, q.0), omega (arith, ap f e, q.1));
        passed = λ j h l. elim (ℕ_discrete j n) [
          | yes i ↦ ap f i ∙ z
          | no ne ↦ r.passed j (omega (arith, e)) (omega arith)
        ];
      }
]
