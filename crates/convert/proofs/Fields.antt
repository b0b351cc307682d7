-- A field written anew word by word, each from the bytes that stand there. Assumes nothing.
use mathlib.Core.Path.{◌≡◌, refl, sym, ap, ap₂, ◌∙◌}
use mathlib.Core.List.{[], ◌∷◌, ◌++◌}
use Prim.Native.Nat.{ℕ, suc, ◌+◌, ◌-◌, ◌*◌, ◌/◌, ◌%◌, ◌^◌, ◌≤◌}
use native.Mathlib.Decide.{ℕ_discrete, dec_lt}
use native.Mathlib.Omega.{arith}
use lib.ListN.{get_or, get_or-append}
use Rattle.sums.specs.Search.{pick_yes, pick_no}
use Rattle.book.specs.Words.{Words, Vol, put, put_words}
use Rattle.book.specs.Written.{put-here, put-page, put_word, put_words-page, put_words-low, put_words-high}
use Rattle.book.specs.Names.{byte_at, end_of, stored, words_of, packed_by}
use Rattle.laws.specs.File.Packed.{behind-at}
use Rattle.laws.specs.File.Stored.{stored-length, stored_at}
use Rattle.laws.specs.Frame.Fields.{row_is, row_at}
use Rattle.convert.specs.Bytes.{byte_for}

-- a byte of the name that stands there, or of what is written behind it
pub byte-is : (n : ℕ) (w : Words) (k i c : ℕ) → byte_for (byte_at w k i) i (end_of n w k) c ≡ get_or (stored n w k ++ (c ∷ [])) i 0
unfolding byte_for
byte-is n w k i c = let l = stored-length n w k in elim (dec_lt i (end_of n w k)) [
  | yes h ↦ pick_yes _ (byte_at w k i) _ (omega arith) ∙ sym (stored_at n w k i h) ∙ sym (get_or-append (stored n w k) (c ∷ []) 0 i (omega (arith, l, h)))
  | no h ↦
      let z : 1 - (suc i - end_of n w k) ≡ 0 = omega arith in
      pick_no _ (byte_at w k i) _ z ∙ ap (λ (j : ℕ). get_or (c ∷ []) (i - j) 0) (sym l) ∙ sym (behind-at (stored n w k) (c ∷ []) i (omega (arith, l, h)))
]

-- a row of words, one more
pub row_more : (v : Vol) (q k i : ℕ) (w : Words) (x : ℕ) → x ≡ w i → put (put_words v q k i w) q (k + i) x ≡ put_words v q k (i + 1) w
row_more v q k i w x e = row_is v (put (put_words v q k i w) q (k + i) x) q k (i + 1) w
    (λ p j a. put-page (put_words v q k i w) q (k + i) x p j a ∙ put_words-page v q k i w p j a)
    (λ j a. put_word (put_words v q k i w) q (k + i) x q j (omega arith) ∙ put_words-low v q k i w q j a)
    (λ j a. put_word (put_words v q k i w) q (k + i) x q j (omega arith) ∙ put_words-high v q k i w q j (omega arith))
    (λ j a. elim (ℕ_discrete j i) [
      | yes s ↦ ap (λ (y : ℕ). put (put_words v q k i w) q (k + i) x q (k + y)) s ∙ put-here (put_words v q k i w) q (k + i) x ∙ e ∙ ap w (sym s)
      | no s ↦ put_word (put_words v q k i w) q (k + i) x q (k + j) (λ b. s (omega arith)) ∙ row_at v q k i w j (omega arith)
    ])

-- the row begins empty
pub row-none : (v : Vol) (q k : ℕ) (w : Words) → v ≡ put_words v q k 0 w
row-none v q k w = row_is v v q k 0 w (λ p i a. refl) (λ i a. refl) (λ i a. refl) (λ j a. absurd (let z : ⊥ = omega arith in z))

-- word i, from the bytes that stand there when the words before it are written
module _ (n : ℕ) (v : Vol) (p k c : ℕ) where
  abbrev name : Words
  name = packed_by c (stored n (v p) k)

  byte-stays : (i j : ℕ) → i ≤ j / 2 → byte_at (put_words v p k i name p) k j ≡ byte_at (v p) k j
  unfolding byte_at
  byte-stays i j h = ap (λ (b : ℕ). b / 256 ^ (1 - j % 2) % 256) (put_words-high v p k i name p (k + j / 2) (omega arith))

  pub word-is : (i l x : ℕ) (u : Vol) → u ≡ put_words v p k i name → l ≡ end_of n (v p) k
      → x ≡ byte_for (byte_at (u p) k (2 * i)) (2 * i) l c * 256 + byte_for (byte_at (u p) k (2 * i + 1)) (2 * i + 1) l c → x ≡ name i
  unfolding packed_by words_of
  word-is i l x u e a h = h ∙ ap₂ (λ (y z : ℕ). y * 256 + z) (one (2 * i) (omega arith)) (one (2 * i + 1) (omega arith))
    where
      one : (j : ℕ) → i ≤ j / 2 → byte_for (byte_at (u p) k j) j l c ≡ get_or (stored n (v p) k ++ (c ∷ [])) j 0
      one j m = ap (λ (w : Vol). byte_for (byte_at (w p) k j) j l c) e ∙ ap₂ (λ (b d : ℕ). byte_for b j d c) (byte-stays i j m) a ∙ byte-is n (v p) k j c
