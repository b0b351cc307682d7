-- Runs of free pages in a word, and in a word with the one above it. Assumes nothing.
use mathlib.Core.Path.{◌≡◌, sym, ap, ◌∙◌}
use mathlib.Core.Logic.{inl, inr}
use Prim.Native.Nat.{ℕ, suc, ◌+◌, ◌-◌, ◌%◌, ◌≤◌, ◌<◌, min}
use native.Mathlib.Decide.{dec_lt, ℕ_discrete}
use native.Mathlib.Omega.{arith}
use Rattle.std.specs.Prelude.{Option, None, Some, SomeIff}
use Rattle.book.specs.Bits.{digit}
use Rattle.book.specs.Written.{digit-le}
use Rattle.bits.specs.Word.{ZerosAbove, ZerosBelow}
use Rattle.bits.specs.Run.{Stopper, Starts, StartIn, RunIn, LeftIn}
use Rattle.bits.proofs.Digits.{digit_ones, digit_low, digit-above, digit-top, all-zeros}

-- each bit of a full word is 1, and of two
pub full-digit : (j : ℕ) → j < 16 → digit j 65535 ≡ 1
full-digit j h = omega (arith, digit_ones j 16)

pub full-pair : (j : ℕ) → j < 32 → digit j 4294967295 ≡ 1
full-pair j h = omega (arith, digit_ones j 32)

-- a reserved place is one of more places too
stopper-on : {w s e : ℕ} (t f : ℕ) → Stopper w s e → t ≤ s → e ≤ f → Stopper w t f
stopper-on t f H a b = record { place = H.place; from = omega (arith, H.from); below = omega (arith, H.below); one = H.one }

-- ---- in a word with the one above it

-- runs of one place
pub starts-one : (x g : ℕ) → g < 4294967296 → ((j : ℕ) → j < 32 → digit j g ≡ 1 - digit j x) → Starts x 1 g
starts-one x g small inverse = record {
  small = small;
  free = λ s e j a b. let i : j ≡ s = omega arith in ap (λ (k : ℕ). digit k x) i ∙ omega (arith, inverse s (inside s e), e);
  other = λ s l e. record { place = s; from = omega arith; below = omega arith; one = omega (arith, inverse s (omega arith), digit-le s x) };
}
  where
    inside : (s : ℕ) → digit s g ≡ 1 → s < 32
    inside s e = elim (dec_lt s 32) [ yes l ↦ l | no l ↦ absurd (let r : ⊥ = omega (arith, digit-above s 32 g (omega (arith, small)) (omega arith)) in r) ]

-- one place more
pub starts_more : (x k g h : ℕ) → 0 < k → h < 4294967296 → Starts x k g → ((j : ℕ) → digit j h ≡ min (digit j g) (digit (suc j) g)) → Starts x (k + 1) h
starts_more x k g h some small S both = record {
  small = small;
  free = λ s e j a b. elim (dec_lt j (s + k)) [
    | yes l ↦ S.free s (here s e) j a l
    | no l ↦ S.free (suc s) (next s e) j (omega arith) (omega arith)
  ];
  other = λ s l e. elim (ℕ_discrete (digit s g) 0) [
    | yes z ↦ stopper-on s (s + (k + 1)) (S.other s (omega arith) z) (omega arith) (omega arith)
    | no z ↦ stopper-on s (s + (k + 1)) (S.other (suc s) (omega arith) (omega (arith, both s, e, z))) (omega arith) (omega arith)
  ];
}
  where
    here : (s : ℕ) → digit s h ≡ 1 → digit s g ≡ 1
    here s e = omega (arith, both s, digit-le s g)

    next : (s : ℕ) → digit s h ≡ 1 → digit (suc s) g ≡ 1
    next s e = omega (arith, both s, digit-le (suc s) g)

module _ (x n : ℕ) (some : 0 < n) (most : n ≤ 16) where
  -- the lower word is full
  pub start-full : x % 65536 ≡ 65535 → StartIn x n None
  start-full e = λ s a b. record { place = s; from = omega arith; below = omega arith; one = sym (digit_low s 16 x b) ∙ ap (digit s) e ∙ full-digit s b }

  -- no run of k places starts there, and so none of more
  pub start_none : (k g : ℕ) → k ≤ n → g % 65536 ≡ 0 → Starts x k g → StartIn x n None
  start_none k g l e S = λ s a b.
      stopper-on s (s + n) (S.other s (omega arith) (sym (digit_low s 16 g b) ∙ ap (digit s) e ∙ digit-above s 0 0 (omega arith) (omega arith))) (omega arith) (omega arith)

  -- the highest of them
  pub start-found : (g z : ℕ) → Starts x n g → ZerosAbove (g % 65536) z → (r : Option ℕ) → SomeIff r (z ≤ 15) (15 - z) → StartIn x n r
  start-found g z S Z None e = λ s a b. S.other s (omega arith) (sym (digit_low s 16 g b) ∙ Z.zeros s (omega arith))
  start-found g z S Z (Some t) e = (omega arith, S.free t (sym (digit_low t 16 g (omega arith)) ∙ Z.there t (omega arith)), λ s a b. S.other s (omega arith) (sym (digit_low s 16 g b) ∙ Z.zeros s (omega arith)))

-- ---- in a word, with what follows on it

module _ (w run n : ℕ) (short : run < n) where
  -- its highest page is reserved
  pub run-held : w < 65536 → 32768 ≤ w → RunIn w run n None
  run-held small h = λ s a b. inr (record { place = 15; from = omega arith; below = omega arith; one = digit-top 15 w h (omega arith) })

  module _ (z : ℕ) (Z : ZerosAbove w z) where
    pub run_none : z < n - run → RunIn w run n None
    run_none h = λ s a b. elim (dec_lt (16 + run) (s + n)) [
      | yes l ↦ inl l
      | no l ↦ inr (record { place = 15 - z; from = omega arith; below = omega arith; one = Z.there (15 - z) (omega arith) })
    ]

-- ---- what a word leaves for the next

-- its lowest page is reserved
pub left-held : (w run : ℕ) → w % 2 ≡ 1 → LeftIn w run 0
unfolding digit
left-held w run e = record {
  most = omega arith;
  free = λ j a b. absurd (let r : ⊥ = omega arith in r);
  stop = λ l. e;
  whole = λ l. absurd (let r : ⊥ = omega arith in r);
}

pub left-free : (w run : ℕ) → w ≡ 0 → LeftIn w run (16 + run)
left-free w run e = record {
  most = omega arith;
  free = λ j a b. ap (digit j) e ∙ digit-above j 0 0 (omega arith) (omega arith);
  stop = λ l. absurd (let r : ⊥ = omega arith in r);
  whole = λ l. omega arith;
}

pub left-some : (w run r : ℕ) → w < 65536 → ¬ (w ≡ 0) → ZerosBelow w r → LeftIn w run r
left-some w run r small some Z = record {
  most = omega (arith, Z.most);
  free = λ j a b. Z.zeros j a;
  stop = Z.there;
  whole = λ l. absurd (some (all-zeros 16 w (omega (arith, small)) (λ j h. Z.zeros j (omega arith))));
}
