-- A run of free pages is taken: the pages are in hand, and what it leaves. Assumes nothing.
use Rattle.std.specs.Prelude.{◌≡◌, ◌≢◌, ◌⊎◌}
use Rattle.std.proofs.Math.Path.{refl}
use Rattle.std.proofs.Common.{◌∙◌, inl, arith}
use Rattle.std.proofs.Math.Logic.{inr}
use Prim.Native.Nat.{ℕ, zero, suc, ◌+◌, ◌≤◌, ◌<◌}
use Rattle.sums.specs.Sum.{sum, sum-suc, sum-zero}
use Rattle.book.specs.Bits.{bit, claim_run, claim}
use Rattle.book.specs.Entries.{user, object}
use Rattle.book.specs.Holders.{hit}
use Rattle.book.specs.Words.{Vol}
use Rattle.laws.specs.Bits.Claim.{FreePage, claim-good, claim-bit-other, claim-user, claim-obj}
use Rattle.laws.specs.Bits.Taking.{NoWords, no_words, Taking, taking-none, taking-then, claim-taking}
use Rattle.laws.specs.Count.Good.{Good, Good-ext}

pub record Taken (P : ℕ) (v : Vol) (hand : ℕ → ℕ) (s n : ℕ) : Type 0 where
  pub good : Good P (claim_run P v s n) (λ p. hand p + sum n (λ i. hit (s + i) p))
  pub others : (p : ℕ) → p < P → (p < s) ⊎ (s + n ≤ p) → bit P (claim_run P v s n) p ≡ bit P v p
  pub users : user (claim_run P v s n) ≡ user v
  pub objs : object (claim_run P v s n) ≡ object v

-- the next page of the run is free still
last : {P : ℕ} {v : Vol} {hand : ℕ → ℕ} {s n : ℕ} → s + suc n ≤ P → ((i : ℕ) → i < suc n → bit P v (s + i) ≡ 0) → Taken P v hand s n
    → FreePage P (claim_run P v s n) (λ p. hand p + sum n (λ i. hit (s + i) p)) (s + n)
last {P} {v} {hand} {s} {n} h z t = record { good = t.good; below = omega arith; clear = t.others (s + n) (omega arith) (inr (omega arith)) ∙ z n (omega arith) }

pub taken : (P : ℕ) (v : Vol) (hand : ℕ → ℕ) → Good P v hand → (s n : ℕ) → s + n ≤ P → ((i : ℕ) → i < n → bit P v (s + i) ≡ 0) → Taken P v hand s n
unfolding claim_run
taken P v hand G s zero h z = record { good = Good-ext P v hand _ (λ p i. omega (arith, sum-zero (λ i. hit (s + i) p))) G; others = λ p h o. refl; users = refl; objs = refl }
taken P v hand G s (suc n) h z =
    let t : Taken P v hand s n = taken P v hand G s n (omega arith) (λ i q. z i (omega arith)) in
    let w : Vol = claim_run P v s n in
    let next : FreePage P w (λ p. hand p + sum n (λ i. hit (s + i) p)) (s + n) = last h z t in
    record {
      good = Good-ext P _ _ _ (λ p i. omega (arith, sum-suc n (λ i. hit (s + i) p))) (claim-good next);
      others = λ p i o. claim-bit-other next p i (apart p o) ∙ t.others p i (less p o);
      users = claim-user next ∙ t.users;
      objs = claim-obj next ∙ t.objs;
    }
  where
    apart : (p : ℕ) → (p < s) ⊎ (s + suc n ≤ p) → p ≢ s + n
    apart p (inl a) = omega arith
    apart p (inr a) = omega arith

    less : (p : ℕ) → (p < s) ⊎ (s + suc n ≤ p) → (p < s) ⊎ (s + n ≤ p)
    less p (inl a) = inl a
    less p (inr a) = inr (omega arith)

module _ (P : ℕ) (v : Vol) (hand : ℕ → ℕ) (G : Good P v hand) (s : ℕ) where
  pub run-taking : (n : ℕ) → s + n ≤ P → ((i : ℕ) → i < n → bit P v (s + i) ≡ 0) → Taking P v (claim_run P v s n) NoWords n 0
  unfolding claim_run
  run-taking zero h z = taking-none P v
  run-taking (suc n) h z =
      let t : Taken P v hand s n = taken P v hand G s n (omega arith) (λ i q. z i (omega arith)) in
      let w : Vol = claim_run P v s n in
      taking-then P v w (claim P w (s + n)) NoWords NoWords NoWords n 0 1 0 (suc n) 0 (run-taking n (omega arith) (λ i q. z i (omega arith)))
      (claim-taking (last h z t)) (omega arith) refl (λ p k q. inr (no_words NoWords p k q))
