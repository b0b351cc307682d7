-- Parts of an image that are written and come back. Assumes nothing.
use mathlib.Core.Path.{◌≡◌, sym, ap, ap₂, ◌∙◌, fun_ext}
use mathlib.Core.List.{List, ◌++◌}
use Prim.Native.Nat.{ℕ, ◌+◌, ◌-◌, ◌*◌, ◌≤◌, ◌<◌}
use native.Mathlib.Nat.{add-sub_cancel_left}
use native.Mathlib.Decide.{ℕ_discrete, dec_lt}
use native.Mathlib.Omega.{arith}
use lib.ListN.{length, get_or, take, drop, get_or-append}
use lib.Seq.{length-take-le, get_or-take, get_or-drop, get_or-append-add}
use borrow.Rule.Slice.PartMut.{mid_of, post_of, put_mid, mid_len}
use Rattle.book.specs.Words.{Words, vol, put_words, wipe, zeros}
use Rattle.book.specs.Written.{vol-in, vol-out, put_words-here, put_words-page, put_words-low, put_words-high, wipe-here, wipe-page}
use Rattle.page.specs.Parts.{Begins}

-- ---- words of a list whose n words from a on came back as ys

module _ (a n : ℕ) (xs ys : List ℕ) (room : a + n ≤ length xs) (long : length ys ≡ n) where
  mid-low : (i : ℕ) → i < a → get_or (put_mid a n xs ys) i 0 ≡ get_or xs i 0
  mid-low i h =
      get_or-append (take a xs) _ 0 i (omega (arith, length-take-le a xs (omega arith))) ∙ get_or-take a xs i 0 h

  mid_at : (i : ℕ) → get_or (put_mid a n xs ys) (a + i) 0 ≡ get_or (ys ++ post_of a n xs) i 0
  mid_at i =
      ap (λ (m : ℕ). get_or (put_mid a n xs ys) (m + i) 0) (sym (length-take-le a xs (omega arith))) ∙ get_or-append-add (take a xs) _ i 0

  mid-in : (i : ℕ) → i < n → get_or (put_mid a n xs ys) (a + i) 0 ≡ get_or ys i 0
  mid-in i h = mid_at i ∙ get_or-append ys _ 0 i (omega arith)

  mid-high : (i : ℕ) → get_or (put_mid a n xs ys) (a + (n + i)) 0 ≡ get_or xs (a + (n + i)) 0
  mid-high i =
      mid_at (n + i) ∙ ap (λ (m : ℕ). get_or (ys ++ post_of a n xs) (m + i) 0) (sym long) ∙ get_or-append-add ys _ i 0
      ∙ get_or-drop n (drop a xs) i 0 ∙ get_or-drop a xs (n + i) 0

-- ---- the n words from word j of page q on

module _ (img ys : List ℕ) (q j n : ℕ) (w : Words) (room : 1024 * q + j + n ≤ length img) (long : length ys ≡ n) (begin : Begins n ys w) where
  abbrev back : List ℕ
  back = put_mid (1024 * q + j) n img ys

  part_in : (p k : ℕ) → k < 1024 → j + n ≤ 1024 → vol back p k ≡ put_words (vol img) q j n w p k
  part_in p k h m = vol-in back p k h ∙ elim (dec_lt (1024 * p + k) (1024 * q + j)) [
    | yes l ↦ mid-low (1024 * q + j) n img ys room long (1024 * p + k) l ∙ same (elim (ℕ_discrete p q) [
      | yes e ↦ put_words-low (vol img) q j n w p k (omega arith)
      | no e ↦ put_words-page (vol img) q j n w p k e
    ])
    | no g ↦ elim (dec_lt (1024 * p + k) (1024 * q + j + n)) [
      | yes l ↦
          let e : p ≡ q = omega arith in
          let i : 1024 * p + k ≡ 1024 * q + j + (k - j) = omega arith in
          ap (λ (x : ℕ). get_or back x 0) i ∙ mid-in (1024 * q + j) n img ys room long (k - j) (omega arith) ∙ begin (k - j) (omega arith)
          ∙ sym (ap (λ (x : ℕ). put_words (vol img) q j n w x k) e ∙ put_words-here (vol img) q j n w k (omega arith) (omega arith))
      | no f ↦
          let i : 1024 * p + k ≡ 1024 * q + j + (n + (1024 * p + k - (1024 * q + j + n))) = omega arith in
          ap (λ (x : ℕ). get_or back x 0) i ∙ mid-high (1024 * q + j) n img ys room long (1024 * p + k - (1024 * q + j + n))
          ∙ ap (λ (x : ℕ). get_or img x 0) (sym i) ∙ same (elim (ℕ_discrete p q) [
            | yes e ↦ put_words-high (vol img) q j n w p k (omega arith)
            | no e ↦ put_words-page (vol img) q j n w p k e
          ])
    ]
  ]
    where
      same : put_words (vol img) q j n w p k ≡ vol img p k → get_or img (1024 * p + k) 0 ≡ put_words (vol img) q j n w p k
      same e = sym (e ∙ vol-in img p k h)

  part-back : j + n ≤ 1024 → vol back ≡ put_words (vol img) q j n w
  part-back m = fun_ext (λ p. fun_ext (λ k. elim (dec_lt k 1024) [
    | yes h ↦ part_in p k h m
    | no h ↦ vol-out back p k (omega arith) ∙ sym (put_words-high (vol img) q j n w p k (omega arith) ∙ vol-out img p k (omega arith))
  ]))

-- as a part that was lent, from word a of the image on, comes back
pub vol-part : (img ys : List ℕ) (a q j n : ℕ) (w : Words) → a ≡ 1024 * q + j → j + n ≤ 1024 → a + n ≤ length img
    → length ys ≡ length (mid_of a (a + n - a) img) → Begins (length (mid_of a (a + n - a) img)) ys w
    → vol (put_mid a (a + n - a) img ys) ≡ put_words (vol img) q j n w
vol-part img ys a q j n w s m room l b =
    let e : a + n - a ≡ n = add-sub_cancel_left a n in
    let long : length ys ≡ n = l ∙ mid_len a (a + n) img room ∙ e in
    ap₂ (λ (x y : ℕ). vol (put_mid x y img ys)) s e ∙ part-back img ys q j n w (omega arith) long (λ k h. b k (omega arith)) m

-- a page of zeros
pub zeros-wipe : (img : List ℕ) (q : ℕ) → put_words (vol img) q 0 1024 zeros ≡ wipe (vol img) q
zeros-wipe img q = fun_ext (λ p. fun_ext (λ k. elim (ℕ_discrete p q) [
  | no e ↦ put_words-page (vol img) q 0 1024 zeros p k e ∙ sym (wipe-page (vol img) q p k e)
  | yes e ↦ ap (λ (x : ℕ). put_words (vol img) q 0 1024 zeros x k) e ∙ elim (dec_lt k 1024) [
    | yes h ↦ put_words-here (vol img) q 0 1024 zeros k (omega arith) (omega arith)
    | no h ↦ put_words-high (vol img) q 0 1024 zeros q k (omega arith) ∙ vol-out img q k (omega arith)
  ] ∙ sym (ap (λ (x : ℕ). wipe (vol img) q x k) e ∙ wipe-here (vol img) q k)
]))
