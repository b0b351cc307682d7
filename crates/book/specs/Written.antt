-- Laws of reading after writing, page by page and word by word. Assumes nothing.
use Rattle.std.specs.Prelude.{◌≡◌, refl, ◌≢◌, List, ℕ, zero, suc, ◌+◌, ◌-◌, ◌*◌, ◌/◌, ◌%◌, ◌≤◌, ◌<◌, length, get_or, take, drop, set}
use Rattle.std.proofs.Common.{sym, ◌∙◌, not-suc-le-zero, arith, length-take, get_or-take, get_or-drop, get_or-set_same, get_or-set_other}
use Rattle.std.proofs.Math.Path.{ap, ap₂, fun_ext}
use Rattle.std.proofs.Math.Nat.{mul-zero, zero-mul}
use Rattle.std.proofs.Math.Decide.{ℕ_discrete, dec_lt}
use Rattle.std.proofs.Math.ListN.{get_or-eq_default}
use Rattle.sums.specs.Sum.{is, is_same, is-other}
use Rattle.sums.specs.Search.{pick, pick_yes, pick_no, at_least}
use Rattle.book.specs.Words.{Words, Vol, vol, two, word, put, put2, put_words, among, wipe, set_word, set_two, set_words}
use Rattle.book.specs.Bits.{digit, to_digit}

-- ---- bits of a word

pub digit-le : (j w : ℕ) → digit j w ≤ 1
unfolding digit
digit-le zero w = omega arith
digit-le (suc j) w = digit-le j (w / 2)

pub digit-same : (j w x : ℕ) → x < 2 → digit j (to_digit j w x) ≡ x
unfolding digit to_digit
digit-same zero w x h = omega arith
digit-same (suc j) w x h =
    let e : (to_digit j (w / 2) x * 2 + w % 2) / 2 ≡ to_digit j (w / 2) x = omega arith in
    ap (digit j) e ∙ digit-same j (w / 2) x h

pub digit-other : (i j w x : ℕ) → i ≢ j → x < 2 → digit i (to_digit j w x) ≡ digit i w
unfolding digit to_digit
digit-other zero zero w x n h = absurd (n refl)
digit-other zero (suc j) w x n h = omega arith
digit-other (suc i) zero w x n h = let e : (w / 2 * 2 + x) / 2 ≡ w / 2 = omega arith in ap (digit i) e
digit-other (suc i) (suc j) w x n h =
    let e : (to_digit j (w / 2) x * 2 + w % 2) / 2 ≡ to_digit j (w / 2) x = omega arith in
    ap (digit i) e ∙ digit-other i j (w / 2) x (λ q. n (ap suc q)) h

pub word-pos : (v : Vol) (p k : ℕ) → 0 < p → word v p k ≡ v p k
unfolding word
word-pos v zero k h = absurd (not-suc-le-zero h)
word-pos v (suc p) k h = refl

-- two volumes that agree at a page read alike there
pub word-ext : (v v' : Vol) (p k : ℕ) → (0 < p → v' p k ≡ v p k) → word v' p k ≡ word v p k
unfolding word
word-ext v v' zero k h = refl
word-ext v v' (suc p) k h = h (omega arith)

module _ (v : Vol) (q j x : ℕ) where
  pub put-here : put v q j x q j ≡ x
  unfolding put pick
  put-here = ap₂ (λ (a b : ℕ). pick (a * b) x (v q j)) (is_same q) (is_same j)

  pub put-page : (p k : ℕ) → p ≢ q → put v q j x p k ≡ v p k
  unfolding put pick
  put-page p k h = ap (λ (a : ℕ). pick a x (v p k)) (ap (λ (a : ℕ). a * is k j) (is-other p q h) ∙ zero-mul (is k j))

  pub put_word : (p k : ℕ) → k ≢ j → put v q j x p k ≡ v p k
  unfolding put pick
  put_word p k h = ap (λ (a : ℕ). pick a x (v p k)) (ap (λ (a : ℕ). is p q * a) (is-other k j h) ∙ mul-zero (is p q))

module _ (v : Vol) (q j x : ℕ) where
  pub put2-hi : put2 v q j x q j ≡ x / 65536
  unfolding put2
  put2-hi = put_word (put v q j (x / 65536)) q (suc j) (x % 65536) q j (omega arith) ∙ put-here v q j (x / 65536)

  pub put2-lo : put2 v q j x q (suc j) ≡ x % 65536
  unfolding put2
  put2-lo = put-here (put v q j (x / 65536)) q (suc j) (x % 65536)

  pub put2-two : two (put2 v q j x q) j ≡ x
  unfolding two
  put2-two = omega (arith, put2-hi, put2-lo)

  pub put2-page : (p k : ℕ) → p ≢ q → put2 v q j x p k ≡ v p k
  unfolding put2
  put2-page p k h = put-page (put v q j (x / 65536)) q (suc j) (x % 65536) p k h ∙ put-page v q j (x / 65536) p k h

  pub put2-word : (p k : ℕ) → k ≢ j → k ≢ suc j → put2 v q j x p k ≡ v p k
  unfolding put2
  put2-word p k h i = put_word (put v q j (x / 65536)) q (suc j) (x % 65536) p k i ∙ put_word v q j (x / 65536) p k h

pub wipe-here : (v : Vol) (q k : ℕ) → wipe v q q k ≡ 0
unfolding wipe pick
wipe-here v q k = ap (λ (a : ℕ). pick a 0 (v q k)) (is_same q)

pub wipe-page : (v : Vol) (q p k : ℕ) → p ≢ q → wipe v q p k ≡ v p k
unfolding wipe pick
wipe-page v q p k h = ap (λ (a : ℕ). pick a 0 (v p k)) (is-other p q h)

-- ---- the image

pub vol-in : (img : List ℕ) (p k : ℕ) → k < 1024 → vol img p k ≡ get_or img (1024 * p + k) 0
unfolding vol
vol-in img p k h = rw (get_or-take, get_or-drop)

pub vol-out : (img : List ℕ) (p k : ℕ) → 1024 ≤ k → vol img p k ≡ 0
unfolding vol
vol-out img p k h = get_or-eq_default (take 1024 (drop (1024 * p) img)) 0 (omega (arith, length-take 1024 (drop (1024 * p) img)))

-- a store of one word
pub vol-set : (img : List ℕ) (q j x : ℕ) → j < 1024 → 1024 * q + j < length img → vol (set img (1024 * q + j) x) ≡ put (vol img) q j x
vol-set img q j x hj hl = fun_ext (λ p. fun_ext (λ k. at p k))
  where
    at : (p k : ℕ) → vol (set img (1024 * q + j) x) p k ≡ put (vol img) q j x p k
    at p k = elim (dec_lt k 1024) [
      | no h ↦ vol-out (set img (1024 * q + j) x) p k (omega arith) ∙ sym (put_word (vol img) q j x p k (omega arith) ∙ vol-out img p k (omega arith))
      | yes h ↦ vol-in (set img (1024 * q + j) x) p k h ∙ elim (ℕ_discrete (1024 * p + k) (1024 * q + j)) [
        | yes e ↦
            let ep : p ≡ q = omega arith in let ek : k ≡ j = omega arith in
            ap (λ (i : ℕ). get_or (set img (1024 * q + j) x) i 0) e ∙ get_or-set_same img (1024 * q + j) x 0 hl
            ∙ sym (ap₂ (put (vol img) q j x) ep ek ∙ put-here (vol img) q j x)
        | no n ↦ get_or-set_other img (1024 * q + j) (1024 * p + k) x 0 n ∙ sym (vol-in img p k h)
            ∙ sym (elim (ℕ_discrete p q) [
              | no a ↦ put-page (vol img) q j x p k a
              | yes a ↦ put_word (vol img) q j x p k (λ b. n (omega arith))
            ])
      ]
    ]

-- ---- words in a row

among_in : (j n k : ℕ) → j ≤ k → k < j + n → among j n k ≡ 1
among_in j n k a b = ap₂ (λ (x y : ℕ). x * y) (let e : at_least j k ≡ 1 = omega arith in e) (let e : at_least (suc k) (j + n) ≡ 1 = omega arith in e)

among-low : (j n k : ℕ) → k < j → among j n k ≡ 0
among-low j n k a = ap (λ (x : ℕ). x * at_least (suc k) (j + n)) (let e : at_least j k ≡ 0 = omega arith in e) ∙ zero-mul _

among-high : (j n k : ℕ) → j + n ≤ k → among j n k ≡ 0
among-high j n k a = ap (λ (x : ℕ). at_least j k * x) (let e : at_least (suc k) (j + n) ≡ 0 = omega arith in e) ∙ mul-zero _

module _ (v : Vol) (q j n : ℕ) (w : Words) where
  pub put_words-here : (k : ℕ) → j ≤ k → k < j + n → put_words v q j n w q k ≡ w (k - j)
  unfolding put_words
  put_words-here k a b = pick_yes _ (w (k - j)) (v q k) (let e : is q q * among j n k ≡ 1 * 1 = ap₂ (λ (x y : ℕ). x * y) (is_same q) (among_in j n k a b) in omega (arith, e))

  pub put_words-page : (p k : ℕ) → p ≢ q → put_words v q j n w p k ≡ v p k
  unfolding put_words
  put_words-page p k h = pick_no _ (w (k - j)) (v p k) (ap (λ (x : ℕ). x * among j n k) (is-other p q h) ∙ zero-mul _)

  pub put_words-low : (p k : ℕ) → k < j → put_words v q j n w p k ≡ v p k
  unfolding put_words
  put_words-low p k h = pick_no _ (w (k - j)) (v p k) (ap (λ (x : ℕ). is p q * x) (among-low j n k h) ∙ mul-zero _)

  pub put_words-high : (p k : ℕ) → j + n ≤ k → put_words v q j n w p k ≡ v p k
  unfolding put_words
  put_words-high p k h = pick_no _ (w (k - j)) (v p k) (ap (λ (x : ℕ). is p q * x) (among-high j n k h) ∙ mul-zero _)

-- ---- fields of an entry

pub set_word-here : (w : Words) (j x : ℕ) → set_word w j x j ≡ x
unfolding set_word
set_word-here w j x = pick_yes (is j j) x (w j) (omega (arith, is_same j))

pub set_word-other : (w : Words) (j x k : ℕ) → k ≢ j → set_word w j x k ≡ w k
unfolding set_word
set_word-other w j x k h = pick_no (is k j) x (w k) (is-other k j h)

pub set_two-hi : (w : Words) (j x : ℕ) → set_two w j x j ≡ x / 65536
unfolding set_two
set_two-hi w j x = set_word-other _ (suc j) (x % 65536) j (omega arith) ∙ set_word-here w j (x / 65536)

pub set_two-lo : (w : Words) (j x : ℕ) → set_two w j x (suc j) ≡ x % 65536
unfolding set_two
set_two-lo w j x = set_word-here _ (suc j) (x % 65536)

pub set_two-two : (w : Words) (j x : ℕ) → two (set_two w j x) j ≡ x
unfolding two
set_two-two w j x = omega (arith, set_two-hi w j x, set_two-lo w j x)

pub set_two-other : (w : Words) (j x k : ℕ) → k ≢ j → k ≢ suc j → set_two w j x k ≡ w k
unfolding set_two
set_two-other w j x k h i = set_word-other _ (suc j) (x % 65536) k i ∙ set_word-other w j (x / 65536) k h

pub set_words-in : (w : Words) (j n : ℕ) (x : Words) (k : ℕ) → j ≤ k → k < j + n → set_words w j n x k ≡ x (k - j)
unfolding set_words
set_words-in w j n x k a b = pick_yes (among j n k) (x (k - j)) (w k) (omega (arith, among_in j n k a b))

pub set_words-low : (w : Words) (j n : ℕ) (x : Words) (k : ℕ) → k < j → set_words w j n x k ≡ w k
unfolding set_words
set_words-low w j n x k h = pick_no (among j n k) (x (k - j)) (w k) (among-low j n k h)

pub set_words-high : (w : Words) (j n : ℕ) (x : Words) (k : ℕ) → j + n ≤ k → set_words w j n x k ≡ w k
unfolding set_words
set_words-high w j n x k h = pick_no (among j n k) (x (k - j)) (w k) (among-high j n k h)
