-- The mended volume word by word, for code that sweeps it: what stays on each kind of page, and what a word of bits must be. Assumes nothing.
use mathlib.Core.Path.{◌≡◌, sym, ap, ap₂, ◌∙◌, subst}
use mathlib.Core.Logic.{◌≢◌, inl, inr}
use Prim.Native.Nat.{ℕ, zero, suc, ◌+◌, ◌-◌, ◌*◌, ◌/◌, ◌%◌, ◌^◌, ◌≤◌, ◌<◌}
use native.Mathlib.Nat.{not-suc-le-zero, pow-suc, eq-zero-or-pos}
use native.Mathlib.Decide.{ℕ_discrete, dec_lt}
use native.Mathlib.Omega.{arith}
use Rattle.book.specs.Bits.{bit_page, bit_word, bit, digit, to_digit, mark, mark_all}
use Rattle.book.specs.Entries.{user_file, user, used, user_page, entry_word}
use Rattle.book.specs.Holders.{mine, some, holders}
use Rattle.book.specs.Rules.{Pointed}
use Rattle.book.specs.Trees.{page_at}
use Rattle.book.specs.Words.{Vol, put, put2, word}
use Rattle.book.specs.Written.{put-here, put-page, put_word, word-pos}
use Rattle.laws.specs.Bits.Claim.{bit_page-is, bit_page-pos, bit_page-lt}
use Rattle.laws.specs.Frame.Roots.{page_at-below}
use Rattle.laws.specs.Salvage.Again.{Narrow}
use Rattle.laws.specs.Count.Reach.{below-users}
use Rattle.laws.specs.Salvage.Counted.{counted-yes, counted-no, own-field}
use Rattle.laws.specs.Salvage.Mended.{same-trees, mended-only, mended-bits, mended-digits, user-no-bits, some-le}
use Rattle.book.specs.Salvage.{counted, spent, balanced, mended}
use Rattle.salvage.proofs.Sweep.{mix, Alike, mix_all}

module _ (P : ℕ) (v : Vol) (S : Pointed P v) (pos : 0 < P) where
  abbrev w : Vol
  w = mended P v

  -- past a page's words, and past the last page, nothing is written
  pub mended-alike : Alike v w
  mended-alike p k h = mended-only P v S pos p k (λ a. elim a [
    | inl c ↦ let r : ⊥ = omega (arith, c.2.2, h) in r
    | inr b ↦ elim b [ inl c ↦ let r : ⊥ = omega (arith, c.3.2, h) in r | inr c ↦ let r : ⊥ = omega (arith, c.2, h) in r ]
  ])

  user-lt : (u : ℕ) → user_page v u < P
  unfolding user_page
  user-lt u = page_at-below v P pos (user_file v) (below-users P v S.r2 S.r3) (u / 32)

  pub mended-past : (p k : ℕ) → P ≤ p → w p k ≡ v p k
  mended-past p k h = mended-only P v S pos p k (λ a. elim a [
    | inl c ↦ let r : ⊥ = omega (arith, c.2.0, bit_page-lt P v S.r1 c.0 c.1, h) in r
    | inr b ↦ elim b [ inl c ↦ let r : ⊥ = omega (arith, c.3.0, user-lt c.0, h) in r | inr c ↦ let r : ⊥ = omega (arith, c.0, h, pos) in r ]
  ])

  -- so a sweep of all pages ends at the mended volume
  pub sweep-all : mix v w (1024 * P) ≡ w
  sweep-all = mix_all v w P mended-alike mended-past

  -- a page that is neither the master, nor has bits, nor users
  pub other-page : (p : ℕ) → 0 < p → ((d : ℕ) → d < P → p ≢ bit_page P v d) → ((i : ℕ) → i < 8 → p ≢ page_at v (user_file v) i) → (k : ℕ) → w p k ≡ v p k
  unfolding user_page
  other-page p h nb nu k = mended-only P v S pos p k (λ a. elim a [
    | inl c ↦ nb c.0 c.1 c.2.0
    | inr b ↦ elim b [ inl c ↦ nu (c.0 / 32) (let h : c.0 < 256 = c.1 in omega arith) c.3.0 | inr c ↦ let r : ⊥ = omega (arith, c.0, h) in r ]
  ])

-- ---- words of 16 bits

-- a word of n bits is told by its bits
pub digits-ext : (n a b : ℕ) → a < 2 ^ n → b < 2 ^ n → ((j : ℕ) → j < n → digit j a ≡ digit j b) → a ≡ b
unfolding digit
digits-ext zero a b ha hb e = omega (arith, ha, hb)
digits-ext (suc n) a b ha hb e =
    let pa : a < 2 ^ n * 2 = subst (λ (x : ℕ). a < x) (pow-suc 2 n) ha in
    let pb : b < 2 ^ n * 2 = subst (λ (x : ℕ). b < x) (pow-suc 2 n) hb in
    let h : a / 2 ≡ b / 2 = digits-ext n (a / 2) (b / 2) (omega (arith, pa)) (omega (arith, pb)) (λ j l. e (suc j) (omega arith)) in
    omega (arith, h, e 0 (omega arith))

to_digit-lt : (n j a x : ℕ) → j < n → a < 2 ^ n → x < 2 → to_digit j a x < 2 ^ n
unfolding to_digit
to_digit-lt zero j a x h ha hx = absurd (not-suc-le-zero h)
to_digit-lt (suc n) zero a x h ha hx =
    let pa : a < 2 ^ n * 2 = subst (λ (y : ℕ). a < y) (pow-suc 2 n) ha in
    subst (λ (y : ℕ). a / 2 * 2 + x < y) (sym (pow-suc 2 n)) (omega (arith, pa, hx))
to_digit-lt (suc n) (suc j) a x h ha hx =
    let pa : a < 2 ^ n * 2 = subst (λ (y : ℕ). a < y) (pow-suc 2 n) ha in
    let r : to_digit j (a / 2) x < 2 ^ n = to_digit-lt n j (a / 2) x (omega (arith, h)) (omega (arith, pa)) hx in
    subst (λ (y : ℕ). to_digit j (a / 2) x * 2 + a % 2 < y) (sym (pow-suc 2 n)) (omega (arith, r))

put-fits : (v : Vol) (q j x : ℕ) → x < 65536 → Narrow v → Narrow (put v q j x)
put-fits v q j x h N p k = elim (ℕ_discrete p q) [
  | no n ↦ omega (arith, put-page v q j x p k n, N p k)
  | yes e ↦ elim (ℕ_discrete k j) [
    | no n ↦ omega (arith, put_word v q j x p k n, N p k)
    | yes f ↦ let z : put v q j x p k ≡ x = ap₂ (put v q j x) e f ∙ put-here v q j x in omega (arith, z, h)
  ]
]

put2-fits : (v : Vol) (q j x : ℕ) → x < 4294967296 → Narrow v → Narrow (put2 v q j x)
unfolding put2
put2-fits v q j x h N = put-fits (put v q j (x / 65536)) q (suc j) (x % 65536) (omega arith) (put-fits v q j (x / 65536) (omega arith) N)

pub word_fits : (v : Vol) (p k : ℕ) → Narrow v → word v p k < 65536
unfolding word
word_fits v zero k N = omega arith
word_fits v (suc p) k N = N (suc p) k

mark-fits : (P : ℕ) (v : Vol) (d x : ℕ) → x < 2 → Narrow v → Narrow (mark P v d x)
unfolding mark
mark-fits P v d x h N = put-fits v (bit_page P v d) (bit_word d) _ (to_digit-lt 16 (d % 16) _ x (omega arith) (word_fits v (bit_page P v d) (bit_word d) N) h) N

-- words that fit stay so, where no user holds more than he was given
module _ (P : ℕ) (v : Vol) (small : P < 4294967296) (few : (u : ℕ) → u < 256 → 0 < used (user v u) → mine v u some < 4294967296) (N : Narrow v) where
  counted-fits : (n : ℕ) → n ≤ 256 → Narrow (counted v n)
  unfolding counted
  counted-fits zero h = N
  counted-fits (suc n) h = elim (eq-zero-or-pos (used (user v n))) [
    | inl z ↦ subst Narrow (sym (counted-no v n z)) (counted-fits n (omega arith))
    | inr q ↦ subst Narrow (sym (counted-yes v n q)) (put2-fits (counted v n) (user_page v n) (entry_word n + 16) (mine v n some) (few n (omega arith) q) (counted-fits n (omega arith)))
  ]

  all-fits : (b : Vol) (f : ℕ → ℕ) → ((p : ℕ) → f p < 2) → Narrow b → (n : ℕ) → Narrow (mark_all P b f n)
  unfolding mark_all
  all-fits b f s F zero = F
  all-fits b f s F (suc n) = mark-fits P (mark_all P b f n) n (f n) (s n) (all-fits b f s F n)

  pub mended-fits : Narrow (mended P v)
  unfolding mended balanced
  mended-fits = all-fits _ _ (λ p. some-le (holders P v p)) (put2-fits (counted v 256) 0 1022 (P - spent P v) (omega arith) (counted-fits 256 (omega arith))) P

-- ---- a word of bits: of pages below P it tells who is held, and from P on it is as it was

module _ (P : ℕ) (v : Vol) (S : Pointed P v) (pos : 0 < P) (i k : ℕ) (hi : 16384 * i < P) (hk : k < 1024) where
  abbrev B : ℕ
  B = bit_page P v (16384 * i)

  -- the page of bit j
  abbrev page_of : ℕ → ℕ
  page_of j = 16384 * i + 16 * k + j

  same-page : (d : ℕ) → d < P → d / 16384 ≡ i → bit_page P v d ≡ B
  same-page d h e = omega (arith, bit_page-is P v S.r1 d h, bit_page-is P v S.r1 (16384 * i) hi, e)

  pub held-bit : (j : ℕ) → j < 16 → page_of j < P → digit j (mended P v B k) ≡ some (holders P v (page_of j))
  unfolding bit
  held-bit j hj h =
      let d : ℕ = 16384 * i + 16 * k + j in
      let a : d % 16 ≡ j = omega arith in
      let c : d % 16384 / 16 ≡ k = omega arith in
      let b : bit_page P (mended P v) d ≡ B = (same-trees P v S pos).bit_pages d ∙ same-page d h (omega arith) in
      sym (ap₂ (λ (x y : ℕ). digit x (word (mended P v) (bit_page P (mended P v) d) y)) a c
      ∙ ap (λ (x : ℕ). digit j (word (mended P v) x k)) b ∙ ap (digit j) (word-pos (mended P v) B k (bit_page-pos P v S.r1 (16384 * i) hi)))
      ∙ mended-bits P v S pos d h

  pub past-bit : (j : ℕ) → j < 16 → P ≤ page_of j → digit j (mended P v B k) ≡ digit j (v B k)
  past-bit j hj h = mended-digits P v S pos (16384 * i) k j hi (λ e he x y z.
      let r : ⊥ = omega (arith, h, he, y, z, x, bit_page-is P v S.r1 e he, bit_page-is P v S.r1 (16384 * i) hi) in r)

  -- so the word is told by its bits
  pub bit_word_lem : mended P v B k < 65536 → (x : ℕ) → x < 65536 → ((j : ℕ) → j < 16 → (page_of j < P → digit j x ≡ some (holders P v (page_of j))) × (P ≤ page_of j → digit j x ≡ digit j (v B k)))
      → x ≡ mended P v B k
  bit_word_lem f x hx g = digits-ext 16 x (mended P v B k) hx f (λ j hj. elim (dec_lt (page_of j) P) [
    | yes h ↦ (g j hj).0 h ∙ sym (held-bit j hj h)
    | no h ↦ (g j hj).1 (omega arith) ∙ sym (past-bit j hj (omega arith))
  ])

-- ---- a word of a user page

module _ (P : ℕ) (v : Vol) (S : Pointed P v) (pos : 0 < P) where
  -- it stays unless it is word 16 or 17 of a used user's entry
  pub user-word : (u k : ℕ) → u < 256 → k < 32 → 0 < user_page v u → (0 < used (user v u) → 16 ≤ k → k < 18 → ⊥) → mended P v (user_page v u) (entry_word u + k) ≡ v (user_page v u) (entry_word u + k)
  unfolding user_page
  user-word u k hu hk h out = mended-only P v S pos (user_page v u) (entry_word u + k) (λ a. elim a [
    | inl c ↦ bits c.0 c.1 c.2.0
    | inr b ↦ elim b [
      | inl c ↦ let o = own-field P v S pos u c.0 k hk h c.3 in out (subst (λ (y : ℕ). 0 < used (user v y)) (sym o.0) c.2) o.1 o.2
      | inr c ↦ let r : ⊥ = omega (arith, c.0, h) in r
    ]
  ])
    where
      bits : (d : ℕ) → d < P → user_page v u ≡ bit_page P v d → ⊥
      bits d i e = user-no-bits P v S pos (u / 32) h d i e
