-- The search downwards for a long run: each word with the free pages that follow on it. Assumes nothing.
use mathlib.Core.Path.{◌≡◌, sym, ap, ◌∙◌}
use mathlib.Core.Logic.{◌⊎◌, inl, inr}
use Prim.Native.Nat.{ℕ, suc, ◌+◌, ◌-◌, ◌*◌, ◌≤◌, ◌<◌}
use native.Mathlib.Decide.{dec_lt}
use native.Mathlib.Omega.{arith}
use Rattle.book.specs.Words.{Vol}
use Rattle.book.specs.Bits.{bit, digit, free_run, highest_run}
use Rattle.std.specs.Prelude.{Option, None, Some}
use Rattle.std.specs.Option.{unwrap_or}
use Rattle.bits.specs.Run.{Stopper, NoRun, RunIn, LeftIn}
use Rattle.bits.specs.Search.{BitsIn}
use Rattle.bits.proofs.Places.{run-broken, highest-start, highest-absent}
use Rattle.bits.proofs.BitsIn.{free-place}

-- w is word i; on it follow `run` free pages, then the end or a reserved one; and no run of n starts above word i
pub record Downwards (P : ℕ) (v : Vol) (n i w run : ℕ) : Type 0 where
  pub most : i * 16 + run ≤ P
  pub word : BitsIn P v i 16 w
  pub short : run < n
  pub free : (k : ℕ) → k < run → (i * 16 + 16 + k < P) × (bit P v (i * 16 + 16 + k) ≡ 0)
  pub stop : i * 16 + 16 + run < P → bit P v (i * 16 + 16 + run) ≡ 1
  pub none : (s : ℕ) → i * 16 + 16 ≤ s → s + n ≤ P → free_run P v n s ≡ 0

module _ (P : ℕ) (v : Vol) (n i w run : ℕ) (long : 16 ≤ n) (D : Downwards P v n i w run) where
  free-page : (j : ℕ) → j < 16 → digit j w ≡ 0 → (i * 16 + j < P) × (bit P v (i * 16 + j) ≡ 0)
  free-page = free-place P v i 16 w D.word

  -- no run starts above the one found
  down-above : (a : ℕ) → NoRun w run n a → (s : ℕ) → i * 16 + a ≤ s → s + n ≤ P → free_run P v n s ≡ 0
  down-above a none s up l = elim (dec_lt s (i * 16 + 16)) [
    | no h ↦ D.none s (omega arith) l
    | yes h ↦ go h (none (s - i * 16) (omega arith) (omega arith))
  ]
    where
      go : s < i * 16 + 16 → (16 + run < s - i * 16 + n) ⊎ Stopper w (s - i * 16) 16 → free_run P v n s ≡ 0
      go h (inl q) =
          let e : s + (i * 16 + 16 + run - s) ≡ i * 16 + 16 + run = omega arith in
          run-broken P v n s (i * 16 + 16 + run - s) (omega arith) (ap (bit P v) e ∙ D.stop (omega arith))
      go h (inr H) =
          let x = H.from in let y = H.below in
          let e : s + (i * 16 + H.place - s) ≡ i * 16 + H.place = omega arith in
          run-broken P v n s (i * 16 + H.place - s) (omega arith) (ap (bit P v) e ∙ sym (D.word.below H.place y (omega arith)) ∙ H.one)

  -- the pages of the run found
  in-run : (t : ℕ) → RunIn w run n (Some t) → (k : ℕ) → k < n → (i * 16 + t + k < P) × (bit P v (i * 16 + t + k) ≡ 0)
  in-run t R k l = elim (dec_lt (t + k) 16) [
    | yes a ↦
        let q = free-page (t + k) a (R.2 (t + k) (omega arith) a) in
        (omega (arith, q.0), ap (bit P v) (let e : i * 16 + t + k ≡ i * 16 + (t + k) = omega arith in e) ∙ q.1)
    | no a ↦
        let q = D.free (t + k - 16) (omega (arith, R.1)) in
        (omega (arith, q.0), ap (bit P v) (let e : i * 16 + t + k ≡ i * 16 + 16 + (t + k - 16) = omega arith in e) ∙ q.1)
  ]

  pub down-found : (t : ℕ) → RunIn w run n (Some t) → highest_run P v n ≡ i * 16 + t
  down-found t R = highest-start P v n (i * 16 + t) (omega arith) (in-run t R) (λ s a l. down-above (suc t) R.3 s (omega arith) l)

  -- in the lowest word
  pub down-none : RunIn w run n None → i ≡ 0 → highest_run P v n ≡ 0
  down-none R z = highest-absent P v n (omega arith) (λ s l. down-above 0 R s (omega arith) l)

  pub down-end : i ≡ 0 → (r : Option ℕ) → RunIn w run n r → highest_run P v n ≡ unwrap_or r 0
  down-end z None R = down-none R z
  down-end z (Some t) R = down-found t R ∙ omega arith

  -- the word below
  pub down-next : RunIn w run n None → (k x left : ℕ) → i ≡ k + 1 → LeftIn w run left → BitsIn P v k 16 x → Downwards P v n k x left
  down-next R j x left next L W = record {
    most = omega (arith, D.most, L.most);
    word = W;
    short = elim (dec_lt left n) [ yes l ↦ l | no l ↦ absurd (full l (R 0 (omega arith) (omega arith))) ];
    free = λ k l. elim (dec_lt k 16) [
      | yes a ↦
          let q = free-page k a (L.free k l a) in
          (omega (arith, q.0), ap (bit P v) (let z : j * 16 + 16 + k ≡ i * 16 + k = omega arith in z) ∙ q.1)
      | no a ↦
          let q = D.free (k - 16) (omega (arith, L.whole (omega arith))) in
          (omega (arith, q.0), ap (bit P v) (let z : j * 16 + 16 + k ≡ i * 16 + 16 + (k - 16) = omega arith in z) ∙ q.1)
    ];
    stop = λ l. elim (dec_lt left 16) [
      | yes a ↦
          ap (bit P v) (let z : j * 16 + 16 + left ≡ i * 16 + left = omega arith in z)
          ∙ sym (D.word.below left a (omega arith)) ∙ L.stop a
      | no a ↦
          let q = L.whole (omega arith) in
          ap (bit P v) (let z : j * 16 + 16 + left ≡ i * 16 + 16 + run = omega arith in z) ∙ D.stop (omega arith)
    ];
    none = λ s a l. down-above 0 R s (omega arith) l;
  }
    where
      full : ¬ (left < n) → (16 + run < 0 + n) ⊎ Stopper w 0 16 → ⊥
      full l (inl q) = omega (arith, L.most)
      full l (inr H) = omega (arith, H.one, L.free H.place (omega (arith, H.below)) H.below)
