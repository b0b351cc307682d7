-- The search downwards for a short run: each word with the one above it. Assumes nothing.
use mathlib.Core.Path.{◌≡◌, refl, sym, ap, ◌∙◌}
use Prim.Native.Nat.{ℕ, suc, ◌+◌, ◌-◌, ◌*◌, ◌/◌, ◌%◌, ◌≤◌, ◌<◌}
use native.Mathlib.Decide.{dec_lt}
use native.Mathlib.Omega.{arith}
use Rattle.book.specs.Words.{Vol}
use Rattle.book.specs.Bits.{bit, free_run, highest_run}
use Rattle.std.specs.Prelude.{Option, None, Some}
use Rattle.std.specs.Option.{unwrap_or}
use Rattle.bits.specs.Run.{NoStart, StartIn}
use Rattle.bits.specs.Search.{BitsIn}
use Rattle.bits.proofs.Places.{run-broken, highest-start, highest-absent}
use Rattle.bits.proofs.BitsIn.{pair-none, pair-next, free-place}

-- x is word i with the one above it, and no run of n starts above word i
pub record Paired (P : ℕ) (v : Vol) (n i x : ℕ) : Type 0 where
  pub most : i * 16 ≤ P
  pub bits : BitsIn P v i 32 x
  pub none : (s : ℕ) → i * 16 + 16 ≤ s → s + n ≤ P → free_run P v n s ≡ 0

module _ (P : ℕ) (v : Vol) (n : ℕ) (some : 0 < n) (short : n ≤ 16) where
  pub paired-start : (w x : ℕ) → w < 65536 → BitsIn P v (P / 16) 16 w → x ≡ 4294967295 % 65536 * 65536 + w → Paired P v n (P / 16) x
  paired-start w x small W e = record {
    most = omega arith;
    bits = pair-next P v (P / 16) (P / 16 + 1) 4294967295 w x refl (pair-none P v (P / 16 + 1) (omega arith)) W small e;
    none = λ s a l. absurd (let r : ⊥ = omega arith in r);
  }

  module _ (i x : ℕ) (D : Paired P v n i x) where
    -- no run starts above the one found
    paired-above : (a : ℕ) → NoStart x n a → (s : ℕ) → i * 16 + a ≤ s → s + n ≤ P → free_run P v n s ≡ 0
    paired-above a none s up l = elim (dec_lt s (i * 16 + 16)) [
      | no h ↦ D.none s (omega arith) l
      | yes h ↦
          let H = none (s - i * 16) (omega arith) (omega arith) in
          let x = H.from in let y = H.below in
          let e : s + (i * 16 + H.place - s) ≡ i * 16 + H.place = omega arith in
          run-broken P v n s (i * 16 + H.place - s) (omega arith) (ap (bit P v) e ∙ sym (D.bits.below H.place (omega arith) (omega arith)) ∙ H.one)
    ]

    -- the pages of the run found
    in_pair : (t : ℕ) → StartIn x n (Some t) → (k : ℕ) → k < n → (i * 16 + t + k < P) × (bit P v (i * 16 + t + k) ≡ 0)
    in_pair t S k l =
        let q = free-place P v i 32 x D.bits (t + k) (omega (arith, S.0)) (S.1 (t + k) (omega arith) (omega arith)) in
        (omega (arith, q.0), ap (bit P v) (let e : i * 16 + t + k ≡ i * 16 + (t + k) = omega arith in e) ∙ q.1)

    pub paired-found : (t : ℕ) → StartIn x n (Some t) → highest_run P v n ≡ i * 16 + t
    paired-found t S = highest-start P v n (i * 16 + t) some (in_pair t S) (λ s a l. paired-above (suc t) S.2 s (omega arith) l)

    -- in the lowest word
    pub paired_none : StartIn x n None → i ≡ 0 → highest_run P v n ≡ 0
    paired_none S z = highest-absent P v n some (λ s l. paired-above 0 S s (omega arith) l)

    pub paired_end : i ≡ 0 → (r : Option ℕ) → StartIn x n r → highest_run P v n ≡ unwrap_or r 0
    paired_end z None S = paired_none S z
    paired_end z (Some t) S = paired-found t S ∙ omega arith

    -- the word below
    pub paired-next : StartIn x n None → (j w y : ℕ) → i ≡ j + 1 → w < 65536 → BitsIn P v j 16 w → y ≡ x % 65536 * 65536 + w → Paired P v n j y
    paired-next S j w y next small W e = record {
      most = omega (arith, D.most);
      bits = pair-next P v j i x w y next D.bits W small e;
      none = λ s a l. paired-above 0 S s (omega arith) l;
    }
