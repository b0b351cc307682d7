-- The bit file as one part of the volume: where each page's bit stands. Assumes nothing.
use mathlib.Core.Path.{◌≡◌, refl, sym, ap, ap₂, ◌∙◌, subst}
use mathlib.Core.Logic.{inl, inr}
use Prim.Native.Nat.{ℕ, zero, suc, ◌+◌, ◌-◌, ◌*◌, ◌/◌, ◌%◌, ◌^◌, ◌≤◌, ◌<◌}
use native.Mathlib.Nat.{add-zero, add-suc, mod-eq_of_lt, eq-zero-or-pos}
use native.Mathlib.Numerals.{add-one}
use native.Mathlib.Omega.{arith}
use lib.Count.{ones}
use Rattle.sums.specs.Sum.{sum, sum-suc, sum-le, sum-const}
use Rattle.sums.specs.Search.{every-yes, every-at, highest-at, highest-none}
use Rattle.book.specs.Words.{Vol, word, put, wipe}
use Rattle.book.specs.Pointers.{page, bit_pointer, flags_above}
use Rattle.book.specs.Trees.{page_at, upto}
use Rattle.book.specs.Bits.{digit, to_digit, bit_page_of, bit_word, bit_pages, bit_file, bit_page, bit, mark, claim, claim_run, free_run, highest_run}
use Rattle.book.specs.Rules.{Rule1}
use Rattle.book.specs.Written.{digit-le, word-pos, put-page, wipe-page}
use Rattle.page.specs.Parts.{word_from}
use Rattle.bits.specs.File.{BitsAt}
use Rattle.bits.proofs.Digits.{ones-more, ones_none}

-- ---- where a bit stands

module _ (P : ℕ) (v : Vol) (b : ℕ) (f : BitsAt P v b) where
  pub bit-page : (p : ℕ) → p < P → bit_page P v p ≡ b + p / 16 / 1024
  unfolding bit_page bit_file page_at upto
  bit-page p h =
      let e : 1 - (suc (bit_page_of p) - bit_pages P) ≡ 1 = omega arith in
      ap (λ (x : ℕ). x * (page (v 0) bit_pointer + bit_page_of p)) e ∙ omega (arith, f.at)

  bit_word_lem : (p : ℕ) → bit_word p ≡ p / 16 % 1024
  bit_word_lem p = omega arith

  word-there : (i : ℕ) → word v (b + i / 1024) (i % 1024) ≡ word_from v b i
  word-there i = word-pos v (b + i / 1024) (i % 1024) (omega (arith, f.some))

  pub bit_at : (p : ℕ) → p < P → bit P v p ≡ digit (p % 16) (word_from v b (p / 16))
  unfolding bit
  bit_at p h = ap (digit (p % 16)) (ap₂ (word v) (bit-page p h) (bit_word_lem p) ∙ word-there (p / 16))

  pub mark-at : (p x : ℕ) → p < P → mark P v p x ≡ put v (b + p / 16 / 1024) (p / 16 % 1024) (to_digit (p % 16) (word_from v b (p / 16)) x)
  unfolding mark
  mark-at p x h =
      ap₂ (λ (q k : ℕ). put v q k (to_digit (p % 16) (word v q k) x)) (bit-page p h) (bit_word_lem p)
      ∙ ap (λ (w : ℕ). put v (b + p / 16 / 1024) (p / 16 % 1024) (to_digit (p % 16) w x)) (word-there (p / 16))

  -- bit n of word i
  pub bit_in : (i n : ℕ) → n < 16 → i * 16 + n < P → bit P v (i * 16 + n) ≡ digit n (word_from v b i)
  bit_in i n l h =
      bit_at (i * 16 + n) h
      ∙ ap₂ (λ (x y : ℕ). digit x (word_from v b y)) (let e : (i * 16 + n) % 16 ≡ n = omega arith in e) (let e : (i * 16 + n) / 16 ≡ i = omega arith in e)

  -- ---- counting, word by word

  -- n bits of word i more
  pub sum-word : (i n : ℕ) → n ≤ 16 → i * 16 + n ≤ P → sum (i * 16 + n) (bit P v) ≡ sum (i * 16) (bit P v) + ones (word_from v b i % 2 ^ n)
  sum-word i zero l h = ap (λ (k : ℕ). sum k (bit P v)) (add-zero (i * 16)) ∙ omega (arith, ones_none (word_from v b i))
  sum-word i (suc n) l h =
      ap (λ (k : ℕ). sum k (bit P v)) (add-suc (i * 16) n)
      ∙ omega (arith, sum-suc (i * 16 + n) (bit P v), sum-word i n (omega arith) (omega arith), bit_in i n (omega arith) (omega arith), ones-more (word_from v b i) n)

  -- all of word i, and the last word of the count
  pub sum-full : (i : ℕ) → word_from v b i < 65536 → (i + 1) * 16 ≤ P → sum ((i + 1) * 16) (bit P v) ≡ sum (i * 16) (bit P v) + ones (word_from v b i)
  sum-full i l h =
      ap (λ (k : ℕ). sum k (bit P v)) (let e : (i + 1) * 16 ≡ i * 16 + 16 = omega arith in e)
      ∙ sum-word i 16 (omega arith) (omega arith) ∙ ap (λ (w : ℕ). sum (i * 16) (bit P v) + ones w) (mod-eq_of_lt l)

  pub sum-last : sum P (bit P v) ≡ sum (P / 16 * 16) (bit P v) + ones (word_from v b (P / 16) % 2 ^ (P % 16))
  sum-last =
      ap (λ (k : ℕ). sum k (bit P v)) (let e : P ≡ P / 16 * 16 + P % 16 = omega arith in e)
      ∙ sum-word (P / 16) (P % 16) (omega arith) (omega arith)

-- ---- a bit written as the code writes it: the word read, the bit made x, the word put back

pub mark-is : (P : ℕ) (v w : Vol) (b p x y z : ℕ) → BitsAt P v b → p < P → y ≡ word_from v b (p / 16) → z ≡ to_digit (p % 16) y x → w ≡ put v (b + p / 16 / 1024) (p / 16 % 1024) z
    → w ≡ mark P v p x
mark-is P v w b p x y z f h ey ez ew = ew ∙ ap (λ (r : ℕ). put v (b + p / 16 / 1024) (p / 16 % 1024) r) (ez ∙ ap (λ (r : ℕ). to_digit (p % 16) r x) ey) ∙ sym (mark-at P v b f p x h)

-- ---- bits of any bit file

module _ (P : ℕ) (v : Vol) where
  pub bit_le : (p : ℕ) → bit P v p ≤ 1
  unfolding bit
  bit_le p = digit-le (p % 16) _

  pub sum-bits-le : (n : ℕ) → sum n (bit P v) ≤ n
  sum-bits-le n = omega (arith, sum-le n (bit P v) (λ i. 1) (λ i l. bit_le i), sum-const n 1)

  pub run-free : (n s : ℕ) → ((i : ℕ) → i < n → bit P v (s + i) ≡ 0) → 0 < free_run P v n s
  unfolding free_run
  run-free n s h = omega (arith, every-yes (λ i. 1 - bit P v (s + i)) n (λ i l. omega (arith, h i l)))

  pub run-broken : (n s i : ℕ) → i < n → bit P v (s + i) ≡ 1 → free_run P v n s ≡ 0
  unfolding free_run
  run-broken n s i l e = elim (eq-zero-or-pos (free_run P v n s)) [
    | inl z ↦ z
    | inr p ↦ absurd (let r : ⊥ = omega (arith, every-at (λ i. 1 - bit P v (s + i)) n p i l) in r)
  ]

  -- n free pages from s on, and no start above; or none at all
  pub highest-start : (n s : ℕ) → 0 < n → ((k : ℕ) → k < n → (s + k < P) × (bit P v (s + k) ≡ 0)) → ((t : ℕ) → s < t → t + n ≤ P → free_run P v n t ≡ 0) → highest_run P v n ≡ s
  unfolding highest_run
  highest-start n s some free above =
      let top = (free (n - 1) (omega arith)).0 in
      highest-at (free_run P v n) (suc P - n) s (omega (arith, top)) (run-free n s (λ k l. (free k l).1)) (λ t a l. above t a (omega arith))

  pub highest-absent : (n : ℕ) → 0 < n → ((t : ℕ) → t + n ≤ P → free_run P v n t ≡ 0) → highest_run P v n ≡ 0
  unfolding highest_run
  highest-absent n some none = highest-none (free_run P v n) (suc P - n) (λ t l. none t (omega arith))

-- ---- the bit file stays where it is

-- after any change that leaves the bit pointer
pub bits-kept : (P : ℕ) (v v' : Vol) (b : ℕ) → v' 0 bit_pointer ≡ v 0 bit_pointer → v' 0 (suc bit_pointer) ≡ v 0 (suc bit_pointer) → BitsAt P v b → BitsAt P v' b
unfolding page
bits-kept P v v' b h l f = record {
  at = ap₂ (λ (x y : ℕ). x % flags_above * 65536 + y) h l ∙ f.at;
  some = f.some;
  fits = f.fits;
}

pub bits-mark : (P : ℕ) (v : Vol) (b p x : ℕ) → p < P → BitsAt P v b → BitsAt P (mark P v p x) b
bits-mark P v b p x h f =
    let q : ℕ = b + p / 16 / 1024 in
    let put-it : Vol = put v q (p / 16 % 1024) (to_digit (p % 16) (word_from v b (p / 16)) x) in
    let n : 0 ≡ q → ⊥ = λ e. omega (arith, f.some) in
    subst (λ (w : Vol). BitsAt P w b) (sym (mark-at P v b f p x h))
    (bits-kept P v put-it b (put-page v q _ _ 0 bit_pointer n) (put-page v q _ _ 0 (suc bit_pointer) n) f)

pub bits-wipe : (P : ℕ) (v : Vol) (b d : ℕ) → 0 < d → BitsAt P v b → BitsAt P (wipe v d) b
bits-wipe P v b d h f =
    let n : 0 ≡ d → ⊥ = λ e. omega arith in
    bits-kept P v (wipe v d) b (wipe-page v d 0 bit_pointer n) (wipe-page v d 0 (suc bit_pointer) n) f

pub bits-claim : (P : ℕ) (v : Vol) (b d : ℕ) → 0 < d → d < P → BitsAt P v b → BitsAt P (claim P v d) b
unfolding claim
bits-claim P v b d h l f = bits-wipe P (mark P v d 1) b d h (bits-mark P v b d 1 l f)

pub bits-run : (P : ℕ) (v : Vol) (b s n : ℕ) → 0 < s → s + n ≤ P → BitsAt P v b → BitsAt P (claim_run P v s n) b
unfolding claim_run
bits-run P v b s zero h l f = f
bits-run P v b s (suc n) h l f = bits-claim P (claim_run P v s n) b (s + n) (omega arith) (omega arith) (bits-run P v b s n h (omega arith) f)

-- of a volume that keeps rule 1
pub bits_at : (P : ℕ) (v : Vol) → Rule1 P v → BitsAt P v (page (v 0) bit_pointer)
bits_at P v r = record { at = refl; some = r.start; fits = r.fits }

-- ---- a run, page by page

pub run_none : (P : ℕ) (v : Vol) (s : ℕ) → v ≡ claim_run P v s 0
unfolding claim_run
run_none P v s = refl

pub run_more : (P : ℕ) (v : Vol) (s i : ℕ) → claim_run P v s (i + 1) ≡ claim P (claim_run P v s i) (s + i)
unfolding claim_run
run_more P v s i = rw (add-one i)
