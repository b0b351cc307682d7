-- The bits of one word: shifts, masks and counts. Assumes nothing.
use mathlib.Core.Path.{◌≡◌, refl, sym, ap, ap₂, ◌∙◌}
use Prim.Native.Nat.{ℕ, zero, suc, ◌+◌, ◌-◌, ◌*◌, ◌/◌, ◌%◌, ◌^◌, ◌≤◌, ◌<◌, min, max}
use native.Mathlib.Nat.{pow-suc, mod-one, div-one, mod-lt, mod-eq_of_lt, add_comm}
use native.Mathlib.Numerals.{one-add, add-one}
use native.Mathlib.Omega.{arith}
use lib.Pow.{pow_pos, pow-lt, shr-shr, mod-pow-add, mod-mod-pow, field}
use lib.Bits.{bit_and, bit_or, and_step, or_step, or_zero_r, and_mask}
use lib.Count.{ones, ones_cat, count_trailing_zeros, under, count_leading_zeros, leading_length}
use Rattle.book.specs.Bits.{digit, to_digit}

-- what `w >> j` shows
pub digit-is : (j w : ℕ) → digit j w ≡ w / 2 ^ j % 2
unfolding digit
digit-is zero w = ap (λ (x : ℕ). x % 2) (sym (div-one w))
digit-is (suc j) w = digit-is j (w / 2) ∙ ap (λ (x : ℕ). x % 2) (shr-shr w 1 j ∙ ap (λ (x : ℕ). w / 2 ^ x) (one-add j))

-- ---- one bit written

pub one-or : (j w : ℕ) → bit_or w (2 ^ j) ≡ to_digit j w 1
unfolding to_digit
one-or zero w = or_step w 1 ∙ ap₂ (λ (x y : ℕ). x * 2 + y) (or_zero_r (w / 2)) (let e : max (w % 2) 1 ≡ 1 = omega arith in e)
one-or (suc j) w =
    let e : 2 ^ suc j ≡ 2 ^ j * 2 = pow-suc 2 j in
    or_step w (2 ^ suc j)
    ∙ ap₂ (λ (x y : ℕ). bit_or (w / 2) x * 2 + max (w % 2) y) (let h : 2 ^ suc j / 2 ≡ 2 ^ j = omega arith in h) (let h : 2 ^ suc j % 2 ≡ 0 = omega arith in h)
    ∙ ap₂ (λ (x y : ℕ). x * 2 + y) (one-or j (w / 2)) (let h : max (w % 2) 0 ≡ w % 2 = omega arith in h)

pub zero-and : (j n w : ℕ) → j < n → w < 2 ^ n → bit_and w (2 ^ n - 1 - 2 ^ j) ≡ to_digit j w 0
unfolding to_digit
zero-and j zero w h f = absurd (let r : ⊥ = omega arith in r)
zero-and zero (suc n) w h f =
    let e : 2 ^ suc n ≡ 2 ^ n * 2 = pow-suc 2 n in
    and_step w (2 ^ suc n - 1 - 1)
    ∙ ap₂ (λ (x y : ℕ). bit_and (w / 2) x * 2 + min (w % 2) y) (let g : (2 ^ suc n - 1 - 1) / 2 ≡ 2 ^ n - 1 = omega arith in g)
    (let g : (2 ^ suc n - 1 - 1) % 2 ≡ 0 = omega (arith, pow_pos n) in g)
    ∙ ap₂ (λ (x y : ℕ). x * 2 + y) (and_mask (w / 2) n ∙ mod-eq_of_lt (omega arith)) (let g : min (w % 2) 0 ≡ 0 = omega arith in g)
zero-and (suc j) (suc n) w h f =
    let e : 2 ^ suc n ≡ 2 ^ n * 2 = pow-suc 2 n in
    let d : 2 ^ suc j ≡ 2 ^ j * 2 = pow-suc 2 j in
    let l : 2 ^ j < 2 ^ n = pow-lt (omega arith) in
    and_step w (2 ^ suc n - 1 - 2 ^ suc j)
    ∙ ap₂ (λ (x y : ℕ). bit_and (w / 2) x * 2 + min (w % 2) y) (let g : (2 ^ suc n - 1 - 2 ^ suc j) / 2 ≡ 2 ^ n - 1 - 2 ^ j = omega arith in g)
    (let g : (2 ^ suc n - 1 - 2 ^ suc j) % 2 ≡ 1 = omega arith in g)
    ∙ ap₂ (λ (x y : ℕ). x * 2 + y) (zero-and j n (w / 2) (omega arith) (omega arith)) (let g : min (w % 2) 1 ≡ w % 2 = omega arith in g)

-- ---- ones

ones-digit : (d : ℕ) → d ≤ 1 → ones d ≡ d
unfolding ones
ones-digit zero h = refl
ones-digit (suc zero) h = refl
ones-digit (suc (suc d)) h = absurd (let r : ⊥ = omega arith in r)

pub ones_none : (w : ℕ) → ones (w % 2 ^ 0) ≡ 0
unfolding ones
ones_none w = ap ones (mod-one w)

-- the ones among the n + 1 lowest bits are those among the n lowest, and bit n
pub ones-more : (w n : ℕ) → ones (w % 2 ^ suc n) ≡ ones (w % 2 ^ n) + digit n w
ones-more w n =
    let d : w / 2 ^ n % 2 ≤ 1 = omega arith in
    ap (λ (j : ℕ). ones (w % 2 ^ j)) (sym (one-add n))
    ∙ ap ones (mod-pow-add w 1 n)
    ∙ ones_cat n (w / 2 ^ n % 2) (w % 2 ^ n) (mod-lt w (pow_pos n))
    ∙ ap (λ (x : ℕ). x + ones (w % 2 ^ n)) (ones-digit (w / 2 ^ n % 2) d ∙ sym (digit-is n w))
    ∙ add_comm (digit n w) (ones (w % 2 ^ n))

-- ---- digit by digit

-- bits of `!w`
pub digit_not : (j n w : ℕ) → j < n → w < 2 ^ n → digit j (2 ^ n - 1 - w) ≡ 1 - digit j w
unfolding digit
digit_not j zero w h f = absurd (let r : ⊥ = omega arith in r)
digit_not zero (suc n) w h f = let e : 2 ^ suc n ≡ 2 ^ n * 2 = pow-suc 2 n in omega arith
digit_not (suc j) (suc n) w h f =
    let e : 2 ^ suc n ≡ 2 ^ n * 2 = pow-suc 2 n in
    ap (digit j) (let g : (2 ^ suc n - 1 - w) / 2 ≡ 2 ^ n - 1 - w / 2 = omega arith in g) ∙ digit_not j n (w / 2) (omega arith) (omega arith)

pub digit_or : (j a b : ℕ) → digit j (bit_or a b) ≡ max (digit j a) (digit j b)
unfolding digit
digit_or zero a b = omega (arith, or_step a b)
digit_or (suc j) a b = ap (digit j) (let e : bit_or a b / 2 ≡ bit_or (a / 2) (b / 2) = omega (arith, or_step a b) in e) ∙ digit_or j (a / 2) (b / 2)

pub digit_and : (j a b : ℕ) → digit j (bit_and a b) ≡ min (digit j a) (digit j b)
unfolding digit
digit_and zero a b = omega (arith, and_step a b)
digit_and (suc j) a b = ap (digit j) (let e : bit_and a b / 2 ≡ bit_and (a / 2) (b / 2) = omega (arith, and_step a b) in e) ∙ digit_and j (a / 2) (b / 2)

-- bit j of the word shifted by one is the next
pub digit-next : (j w : ℕ) → digit j (w / 2 ^ 1) ≡ digit (suc j) w
unfolding digit
digit-next j w = refl

-- the bits of the n lowest, and those above them
pub digit_low : (j n w : ℕ) → j < n → digit j (w % 2 ^ n) ≡ digit j w
unfolding digit
digit_low j zero w h = absurd (let r : ⊥ = omega arith in r)
digit_low zero (suc n) w h = ap (λ (k : ℕ). w % 2 ^ k % 2) (sym (add-one n)) ∙ mod-mod-pow w n 1
digit_low (suc j) (suc n) w h =
    ap (digit j) (ap (λ (k : ℕ). w % 2 ^ k / 2) (sym (add-one n)) ∙ field w n 1) ∙ digit_low j n (w / 2) (omega arith)

pub digit-high : (j n w : ℕ) → digit (n + j) w ≡ digit j (w / 2 ^ n)
digit-high j n w = digit-is (n + j) w ∙ ap (λ (x : ℕ). x % 2) (sym (shr-shr w n j)) ∙ sym (digit-is j (w / 2 ^ n))

-- a word of n ones, and bit j of it
pub digit_ones : (j n : ℕ) → digit j (2 ^ n - 1) ≡ 1 - (suc j - n)
unfolding digit
digit_ones zero zero = refl
digit_ones (suc j) zero = omega (arith, digit_ones j zero)
digit_ones zero (suc n) = omega (arith, pow-suc 2 n, pow_pos n)
digit_ones (suc j) (suc n) =
    ap (digit j) (let e : (2 ^ suc n - 1) / 2 ≡ 2 ^ n - 1 = omega (arith, pow-suc 2 n, pow_pos n) in e) ∙ digit_ones j n
    ∙ (let e : 1 - (suc j - n) ≡ 1 - (suc (suc j) - suc n) = omega arith in e)

-- no bit is set above a word's end
pub digit-above : (j n w : ℕ) → w < 2 ^ n → n ≤ j → digit j w ≡ 0
unfolding digit
digit-above zero zero w h l = omega arith
digit-above zero (suc n) w h l = absurd (let r : ⊥ = omega arith in r)
digit-above (suc j) zero w h l = digit-above j zero (w / 2) (omega arith) (omega arith)
digit-above (suc j) (suc n) w h l = digit-above j n (w / 2) (omega (arith, pow-suc 2 n)) (omega arith)

-- a word all of whose bits are 1, or 0
pub all_ones : (n w : ℕ) → w < 2 ^ n → ((j : ℕ) → j < n → digit j w ≡ 1) → w ≡ 2 ^ n - 1
unfolding digit
all_ones zero w h d = omega arith
all_ones (suc n) w h d =
    omega (arith, pow-suc 2 n, pow_pos n, d 0 (omega arith), all_ones n (w / 2) (omega (arith, pow-suc 2 n)) (λ j l. d (suc j) (omega arith)))

pub all-zeros : (n w : ℕ) → w < 2 ^ n → ((j : ℕ) → j < n → digit j w ≡ 0) → w ≡ 0
unfolding digit
all-zeros zero w h d = omega arith
all-zeros (suc n) w h d =
    omega (arith, d 0 (omega arith), all-zeros n (w / 2) (omega (arith, pow-suc 2 n)) (λ j l. d (suc j) (omega arith)))

-- ---- the zeros at a word's ends

-- the bits below the lowest 1 are 0, and that one is 1
pub trailing_below : (n w j : ℕ) → j < count_trailing_zeros n w → digit j w ≡ 0
unfolding count_trailing_zeros digit
trailing_below zero w j h = absurd (let r : ⊥ = omega arith in r)
trailing_below (suc n) w j h = go (λ i. trailing_below n (w / 2) i) (w % 2) refl j h
  where
    go : ((i : ℕ) → i < count_trailing_zeros n (w / 2) → digit i (w / 2) ≡ 0) → (d : ℕ) → w % 2 ≡ d → (j : ℕ) → j < under d (count_trailing_zeros n (w / 2)) → digit j w ≡ 0
    go rest zero e zero h = e
    go rest zero e (suc j) h = rest j (omega arith)
    go rest (suc d) e j h = absurd (let r : ⊥ = omega arith in r)

pub trailing_at : (n w : ℕ) → count_trailing_zeros n w < n → digit (count_trailing_zeros n w) w ≡ 1
unfolding count_trailing_zeros digit
trailing_at zero w h = absurd (let r : ⊥ = omega arith in r)
trailing_at (suc n) w h = go (λ l. trailing_at n (w / 2) l) (w % 2) refl h
  where
    go : (count_trailing_zeros n (w / 2) < n → digit (count_trailing_zeros n (w / 2)) (w / 2) ≡ 1) → (d : ℕ) → w % 2 ≡ d → under d (count_trailing_zeros n (w / 2)) < suc n → digit (under d (count_trailing_zeros n (w / 2))) w ≡ 1
    go rest zero e h = rest (omega arith)
    go rest (suc d) e h = omega arith

-- the highest bit of a word that fills j + 1 bits
pub digit-top : (j w : ℕ) → 2 ^ j ≤ w → w < 2 ^ suc j → digit j w ≡ 1
unfolding digit
digit-top zero w l h = omega arith
digit-top (suc j) w l h = digit-top j (w / 2) (omega (arith, pow-suc 2 j)) (omega (arith, pow-suc 2 (suc j)))

-- the bits above the highest 1 are 0, and that one is 1
pub leading-above : (n w j : ℕ) → w < 2 ^ n → n ≤ j + count_leading_zeros n w → digit j w ≡ 0
leading-above n w j h l = let m = leading_length n w h in digit-above j m.0 w m.2 (omega (arith, m.1))

pub leading_at : (n w j : ℕ) → w < 2 ^ n → suc j + count_leading_zeros n w ≡ n → digit j w ≡ 1
leading_at n w j h e =
    let m = leading_length n w h in
    let q : m.0 ≡ suc j = omega (arith, m.1) in
    let p : 2 ^ m.0 ≡ 2 ^ j * 2 = ap (λ (x : ℕ). 2 ^ x) q ∙ pow-suc 2 j in
    digit-top j w (omega (arith, m.3)) (omega (arith, m.2, pow-suc 2 j))
