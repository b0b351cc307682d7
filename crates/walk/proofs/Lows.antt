-- Rows of bits, word by word: the lowest r bits of two words are the same exactly where the words are, modulo 2^r. Assumes nothing.
use Rattle.std.proofs.Common.{◌≡◌, ℕ, zero, suc, ◌+◌, ◌-◌, ◌*◌, ◌/◌, ◌%◌, ◌^◌, ◌≤◌, ◌<◌, Bool, List, length, get_or, take, drop, sym, ap, ◌∙◌, get_or-take, get_or-drop, length-take-le, arith}
use Rattle.std.proofs.lemmas.Grind.{same_number_lists}
use native.Mathlib.Nat.{mod-one, mod-eq_of_lt}
use native.Mathlib.Decide.{dec_lt}
use lib.Pow.{mod-pow-add, mod-mod-pow, field}
use Rattle.book.specs.Words.{vol}
use Rattle.book.specs.Written.{vol-in}
use Rattle.book.specs.Bits.{digit, bit}
use Rattle.book.specs.Decides.{Decides}
use Rattle.page.proofs.Deciding.{decides-iff}
use Rattle.bits.specs.File.{BitsAt}
use Rattle.bits.proofs.Digits.{digit-is}
use Rattle.bits.proofs.Places.{bit_at}
use Rattle.bits.specs.Marks.{marked}

digit_low : (r j a : ℕ) → j < r → digit j (a % 2 ^ r) ≡ digit j a
digit_low r j a lt =
    let k = r - suc j in
    let e : r ≡ (k + 1) + j = omega arith in
    digit-is j (a % 2 ^ r) ∙ ap (λ (n : ℕ). a % 2 ^ n / 2 ^ j % 2) e ∙ ap (λ (n : ℕ). n % 2) (field a (k + 1) j) ∙ mod-mod-pow (a / 2 ^ j) k 1 ∙ sym (digit-is j a)

low_same : (r a b : ℕ) → ((j : ℕ) → j < r → digit j a ≡ digit j b) → a % 2 ^ r ≡ b % 2 ^ r
low_same zero a b h = mod-one a ∙ sym (mod-one b)
low_same (suc r) a b h =
    let e : suc r ≡ 1 + r = omega arith in
    let d : a / 2 ^ r % 2 ≡ b / 2 ^ r % 2 = sym (digit-is r a) ∙ h r (omega arith) ∙ digit-is r b in
    rw (e, mod-pow-add a 1 r, mod-pow-add b 1 r, d, low_same r a b (λ j lt. h j (omega arith)))

pub low-whole : (x : ℕ) → x < 65536 → x % 2 ^ 16 ≡ x
low-whole x lt = mod-eq_of_lt lt

module _ (a b : List ℕ) (i r : ℕ) (le : r ≤ 16) where
  -- r bits of word i more are the same
  pub words_same : get_or a i 0 % 2 ^ r ≡ get_or b i 0 % 2 ^ r → ((p : ℕ) → p < 16 * i → marked a p ≡ marked b p) → (p : ℕ) → p < 16 * i + r → marked a p ≡ marked b p
  unfolding marked
  words_same e before p lt = elim (dec_lt p (16 * i)) [
    | yes h ↦ before p h
    | no h ↦
        let w : p / 16 ≡ i = omega arith in
        let j : p % 16 < r = omega arith in
        rw w (sym (digit_low r (p % 16) (get_or a i 0) j) ∙ ap (digit (p % 16)) e ∙ digit_low r (p % 16) (get_or b i 0) j)
  ]

  -- and they are where the bits are
  pub words-alike : (n : ℕ) → 16 * i + r ≤ n → ((p : ℕ) → p < n → marked a p ≡ marked b p) → get_or a i 0 % 2 ^ r ≡ get_or b i 0 % 2 ^ r
  unfolding marked
  words-alike n in-n same = low_same r (get_or a i 0) (get_or b i 0) same_at
    where
      same_at : (j : ℕ) → j < r → digit j (get_or a i 0) ≡ digit j (get_or b i 0)
      same_at j lt =
          let w : (16 * i + j) / 16 ≡ i = omega arith in
          let z : (16 * i + j) % 16 ≡ j = omega arith in
          rw (w, z) at (same (16 * i + j) (omega arith))

-- the first n words, as `==` on slices compares them
module _ (a b : List ℕ) (n : ℕ) where
  pub first_same : take n a ≡ take n b → (p : ℕ) → p < 16 * n → marked a p ≡ marked b p
  unfolding marked
  first_same e p h =
      let l : p / 16 < n = omega arith in
      ap (digit (p % 16)) (sym (get_or-take n a (p / 16) 0 l) ∙ ap (λ (xs : List ℕ). get_or xs (p / 16) 0) e ∙ get_or-take n b (p / 16) 0 l)

  pub first-alike : n ≤ length a → n ≤ length b → ((k : ℕ) → get_or a k 0 < 65536) → ((k : ℕ) → get_or b k 0 < 65536) → (m : ℕ) → 16 * n ≤ m → ((p : ℕ) → p < m → marked a p ≡ marked b p) → take n a ≡ take n b
  first-alike la lb fa fb m in-m same =
      same_number_lists (take n a) (take n b) (length-take-le n a la ∙ sym (length-take-le n b lb))
      (λ k h. let l : k < n = omega (arith, h, length-take-le n a la) in get_or-take n a k 0 l ∙ word k l ∙ sym (get_or-take n b k 0 l))
    where
      word : (k : ℕ) → k < n → get_or a k 0 ≡ get_or b k 0
      word k l = sym (low-whole (get_or a k 0) (fa k)) ∙ words-alike a b k 16 (omega arith) m (omega arith) same ∙ low-whole (get_or b k 0) (fb k)

-- ---- the bit file's part: its words for the pages below P

module _ (img : List ℕ) (b P n : ℕ) (f : BitsAt P (vol img) b) (xs : List ℕ) (is-part : xs ≡ take n (drop (1024 * b) img)) (all : P ≤ 16 * n) where
  bit-part : (p : ℕ) → p < P → bit P (vol img) p ≡ marked xs p
  unfolding marked
  bit-part p h =
      let i : ℕ = p / 16 in
      let e : 1024 * (b + i / 1024) + i % 1024 ≡ 1024 * b + i = omega arith in
      bit_at P (vol img) b f p h ∙ ap (digit (p % 16)) (
      vol-in img (b + i / 1024) (i % 1024) (omega arith) ∙ ap (λ (k : ℕ). get_or img k 0) e ∙ sym (get_or-drop (1024 * b) img i 0)
      ∙ sym (get_or-take n (drop (1024 * b) img) i 0 (omega arith)) ∙ ap (λ (ys : List ℕ). get_or ys i 0) (sym is-part)
      )

  pub same-part : (m : List ℕ) (r : Bool) → Decides r ((p : ℕ) → p < P → marked xs p ≡ marked m p) → Decides r ((p : ℕ) → p < P → bit P (vol img) p ≡ marked m p)
  same-part m r d = decides-iff r _ _ (λ k p h. bit-part p h ∙ k p h) (λ k p h. sym (bit-part p h) ∙ k p h) d
