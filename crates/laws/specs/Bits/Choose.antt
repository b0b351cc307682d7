-- A choice of free pages (Chooser): the lowest free page is one; and the highest run of free pages. Assumes nothing.
use Rattle.std.specs.Prelude.{◌≡◌}
use Prim.Native.Nat.{ℕ, ◌-◌, ◌<◌, zero, suc, ◌+◌, ◌≤◌}
use native.Mathlib.Omega.{arith}
use Rattle.sums.specs.Search.{lowest, lowest-lt, lowest-is, every-yes, every-at, highest-is}
use Rattle.sums.specs.Sum.{is_same}
use Rattle.book.specs.Bits.{bit, lowest_free, free_run, highest_run}
use Rattle.book.specs.Rules.{Sound}
use Rattle.book.specs.Words.{Vol}
use Rattle.laws.specs.Count.Good.{free-page, bit_le, free, good}

-- ---- a choice of pages: free while one is

unfoldable pub Chooser : ℕ → (Vol → ℕ) → Type 0
Chooser P choose = (v : Vol) → 0 < free P v → (choose v < P) × (bit P v (choose v) ≡ 0)

-- while a page is free, the lowest free page is one
pub lowest-chooser : (P : ℕ) → Chooser P (lowest_free P)
unfolding Chooser lowest_free
lowest-chooser P v h =
    let r : (p : ℕ) × (p < P) × (bit P v p ≡ 0) = free-page P v h in
    let f : ℕ → ℕ = λ p. 1 - bit P v p in
    let lt : lowest f P < P = lowest-lt f P r.0 r.1 (omega (arith, r.2)) in
    (lt, omega (arith, (lowest-is f P).there lt))

-- and no page below it is free
pub lowest-least : (P : ℕ) (v : Vol) (p : ℕ) → p < lowest_free P v → bit P v p ≡ 1
unfolding lowest_free
lowest-least P v p h = omega (arith, bit_le P v p, (lowest-is (λ p. 1 - bit P v p) P).passed p h)

-- a choice finds one
pub chosen : (choose : Vol → ℕ) (P : ℕ) → Chooser P choose → (v : Vol) → 0 < free P v → (choose v < P) × (bit P v (choose v) ≡ 0)
unfolding Chooser
chosen choose P ch = ch

-- a sound volume, and a choice of its free pages
pub record Stock (choose : Vol → ℕ) (P : ℕ) (v : Vol) : Type 0 where
  pub choice : Chooser P choose
  pub sound : Sound P v
  pub pos : 0 < P

-- the lowest free page is chosen
pub lowest-stock : {P : ℕ} {v : Vol} → Sound P v → 0 < P → Stock (lowest_free P) P v
lowest-stock {P} {v} S pos = record { choice = lowest-chooser P; sound = S; pos = pos }

-- pages s to s + n - 1 lie below P, and all are free
unfoldable pub FreeRun : ℕ → Vol → ℕ → ℕ → Type 0
FreeRun P v n s = (s + n ≤ P) × ((i : ℕ) → i < n → bit P v (s + i) ≡ 0)

module _ (P : ℕ) (v : Vol) (n : ℕ) where
  -- the test says so
  pub run-test : (s : ℕ) → 0 < free_run P v n s → (i : ℕ) → i < n → bit P v (s + i) ≡ 0
  unfolding free_run
  run-test s h i l = omega (arith, every-at (λ i. 1 - bit P v (s + i)) n h i l)

  run-tested : (s : ℕ) → FreeRun P v n s → free_run P v n s ≡ 1
  unfolding free_run FreeRun
  run-tested s h = every-yes (λ i. 1 - bit P v (s + i)) n (λ i l. omega (arith, h.1 i l))

  -- what is found is a run
  pub run-found : 0 < highest_run P v n → FreeRun P v n (highest_run P v n)
  unfolding highest_run FreeRun
  run-found h = let r = (highest-is (free_run P v n) (suc P - n)).there h in (omega (arith, r.0), run-test (highest_run P v n) r.1)

  -- no start above it is one
  pub run-highest : (s : ℕ) → highest_run P v n < s → FreeRun P v n s → ⊥
  unfolding highest_run FreeRun
  run-highest s h r = omega (arith, (highest-is (free_run P v n) (suc P - n)).passed s h (omega (arith, r.0)), run-tested s r)

  -- 0 exactly if there is none: page 0 is never free
  module _ (S : Sound P v) (pos : 0 < P) (some : 0 < n) where
    start : (s : ℕ) → FreeRun P v n s → 0 < s
    unfolding FreeRun
    start zero r = omega (arith, (good P v S).held 0 pos, r.1 0 some, is_same 0)
    start (suc s) r = omega arith

    pub run_none : highest_run P v n ≡ 0 → (s : ℕ) → FreeRun P v n s → ⊥
    run_none h s r = run-highest s (omega (arith, start s r)) r

    -- so a run that is there is found
    pub run-exact : (s : ℕ) → FreeRun P v n s → (s ≤ highest_run P v n) × (0 < highest_run P v n)
    run-exact s r = let a : ¬ (highest_run P v n < s) = λ h. run-highest s h r in (omega arith, omega (arith, start s r))
