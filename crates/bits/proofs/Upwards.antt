-- The search upwards, for the lowest free page from page s on. Assumes nothing.
use mathlib.Core.Path.{◌≡◌, sym, ap, ◌∙◌, fun_ext}
use Prim.Native.Nat.{ℕ, suc, ◌+◌, ◌-◌, ◌*◌, ◌/◌, ◌%◌, ◌≤◌, ◌<◌, min, max}
use native.Mathlib.Decide.{dec_lt, ℕ_discrete}
use native.Mathlib.Omega.{arith}
use Rattle.sums.specs.Search.{lowest, lowest-at, lowest-none, lowest-is}
use Rattle.book.specs.Words.{Vol}
use Rattle.book.specs.Bits.{bit, digit, lowest_free}
use Rattle.page.specs.Parts.{word_from}
use Rattle.bits.specs.File.{BitsAt}
use Rattle.bits.specs.Search.{free_from}
use Rattle.bits.specs.Word.{FirstClear}
use Rattle.bits.proofs.Digits.{all_ones}
use Rattle.bits.proofs.Places.{bit_in, bit_le}
use Rattle.bits.proofs.Runs.{full-digit}

-- from page 0 on
pub from_zero : (P : ℕ) (v : Vol) → free_from P v 0 ≡ lowest_free P v
unfolding free_from lowest_free
from_zero P v = ap (λ (f : ℕ → ℕ). lowest f P) (fun_ext (λ p. let e : 1 - bit P v p - (0 - p) ≡ 1 - bit P v p = omega arith in e))

-- from the end on
pub from_end : (P : ℕ) (v : Vol) (s : ℕ) → P ≤ s → free_from P v s ≡ P
unfolding free_from
from_end P v s h = lowest-none (λ p. 1 - bit P v p - (s - p)) P (λ k l. omega (arith, bit_le P v k))

-- what it finds
pub from-most : (P : ℕ) (v : Vol) (s : ℕ) → free_from P v s ≤ P
unfolding free_from
from-most P v s = (lowest-is (λ p. 1 - bit P v p - (s - p)) P).most

pub from-free : (P : ℕ) (v : Vol) (s : ℕ) → free_from P v s < P → s ≤ free_from P v s
unfolding free_from
from-free P v s h = omega (arith, (lowest-is (λ p. 1 - bit P v p - (s - p)) P).there h)

-- the words before word i are passed, and w is word i, where the pages below s count as reserved
pub record Upwards (P : ℕ) (v : Vol) (s i w : ℕ) : Type 0 where
  pub small : w < 65536
  pub start : s < i * 16 + 16
  pub inside : i * 16 < P
  pub passed : (k : ℕ) → s ≤ k → k < i * 16 → bit P v k ≡ 1
  pub word : (j : ℕ) → j < 16 → i * 16 + j < P → digit j w ≡ max (bit P v (i * 16 + j)) (1 - (suc (i * 16 + j) - s))

module _ (P : ℕ) (v : Vol) (b : ℕ) (f : BitsAt P v b) (s : ℕ) where
  pub up_start : s < P → (w : ℕ) → w < 65536 → ((j : ℕ) → digit j w ≡ max (digit j (word_from v b (s / 16))) (1 - (suc j - s % 16))) → Upwards P v s (s / 16) w
  up_start h w small d = record {
    small = small;
    start = omega arith;
    inside = omega arith;
    passed = λ k a l. absurd (let r : ⊥ = omega arith in r);
    word = λ j l q. omega (arith, d j, bit_in P v b f (s / 16) j l q);
  }

  module _ (i w : ℕ) (U : Upwards P v s i w) where
    -- of the pages from s on none is free in the words passed and below bit t of word i
    none_below : (t : ℕ) → t ≤ 16 → ((j : ℕ) → j < t → digit j w ≡ 1) → (k : ℕ) → s ≤ k → k < i * 16 + t → k < P → bit P v k ≡ 1
    none_below t m d k a l q = elim (dec_lt k (i * 16)) [
      | yes h ↦ U.passed k a h
      | no h ↦
          let e : i * 16 + (k - i * 16) ≡ k = omega arith in
          let z : bit P v (i * 16 + (k - i * 16)) ≡ 1 = omega (arith, U.word (k - i * 16) (omega arith) (omega arith), d (k - i * 16) (omega arith)) in
          ap (bit P v) (sym e) ∙ z
    ]

    passed-by : (t : ℕ) → t ≤ 16 → ((j : ℕ) → j < t → digit j w ≡ 1) → (k : ℕ) → k < i * 16 + t → k < P → 1 - bit P v k - (s - k) ≡ 0
    passed-by t m d k l q = elim (dec_lt k s) [ yes h ↦ omega (arith, bit_le P v k) | no h ↦ omega (arith, none_below t m d k (omega arith) l q) ]

    full : w ≡ 65535 → (j : ℕ) → j < 16 → digit j w ≡ 1
    full e j l = ap (digit j) e ∙ full-digit j l

    -- a full word, and the next
    pub up_next : w ≡ 65535 → (x : ℕ) → x < 65536 → x ≡ word_from v b (i + 1) → (i + 1) * 16 < P → Upwards P v s (i + 1) x
    up_next e x small ex h = record {
      small = small;
      start = omega (arith, U.start);
      inside = h;
      passed = λ k a l. none_below 16 (omega arith) (full e) k a (omega arith) (omega arith);
      word = λ j l q. omega (arith, U.start, ap (digit j) ex, bit_in P v b f (i + 1) j l q);
    }

    -- a full word that is the last
    pub up_none : w ≡ 65535 → P ≤ (i + 1) * 16 → P ≡ free_from P v s
    unfolding free_from
    up_none e h = sym (lowest-none (λ p. 1 - bit P v p - (s - p)) P (λ k l. passed-by 16 (omega arith) (full e) k (omega arith) l))

    -- the first word that is not full, or the last
    module _ (t : ℕ) (C : FirstClear w t) where
      pub up-past : P ≤ i * 16 + t → P ≡ free_from P v s
      unfolding free_from
      up-past h = sym (lowest-none (λ p. 1 - bit P v p - (s - p)) P (λ k l. passed-by t C.most C.below k (omega arith) l))

      up_clear : t < 16 → i * 16 + t < P → i * 16 + t ≡ free_from P v s
      unfolding free_from
      up_clear l h =
          sym (lowest-at (λ p. 1 - bit P v p - (s - p)) P (i * 16 + t) h (omega (arith, U.word t l h, C.there l))
          (λ k a. passed-by t C.most C.below k a (omega arith)))

      -- a word that is not full has a 0
      has-clear : ¬ (w ≡ 65535) → t < 16
      has-clear n = elim (dec_lt t 16) [
        | yes l ↦ l
        | no l ↦ absurd (n (all_ones 16 w (omega (arith, U.small)) (λ j a. C.below j (omega arith))))
      ]

      -- a full word has none
      full-past : w ≡ 65535 → 16 ≤ t
      full-past e = elim (dec_lt t 16) [
        | yes l ↦ absurd (let r : ⊥ = omega (arith, full e t l, C.there l) in r)
        | no l ↦ omega arith
      ]

      pub up-found : ¬ (w ≡ 65535) → i * 16 + t < P → i * 16 + t ≡ free_from P v s
      up-found n h = up_clear (has-clear n) h

      pub up_inside : ¬ (w ≡ 65535) → i * 16 + 16 ≤ P → i * 16 + t ≡ free_from P v s
      up_inside n h = up-found n (let l : t < 16 = has-clear n in omega arith)

      pub up_last : P ≤ i * 16 + 16 → min P (i * 16 + t) ≡ free_from P v s
      up_last h = elim (ℕ_discrete w 65535) [
        | yes e ↦ (let q : min P (i * 16 + t) ≡ P = omega (arith, full-past e) in q) ∙ up_none e (omega arith)
        | no n ↦ elim (dec_lt (i * 16 + t) P) [
          | yes l ↦ (let q : min P (i * 16 + t) ≡ i * 16 + t = omega arith in q) ∙ up-found n l
          | no l ↦ (let q : min P (i * 16 + t) ≡ P = omega arith in q) ∙ up-past (omega arith)
        ]
      ]
