-- An entry is written into its page, and fields into the words just written: what is read there afterwards. Assumes nothing.
use Rattle.std.specs.Prelude.{◌≡◌, ◌≢◌, ◌⊎◌, ℕ, suc, ◌+◌, ◌-◌, ◌/◌, ◌%◌, ◌≤◌, ◌<◌, ◌*◌}
use Rattle.std.proofs.Common.{sym, ◌∙◌, inl, inr, add-suc, arith}
use Rattle.std.proofs.Math.Path.{ap, fun_ext, subst}
use Rattle.std.proofs.Math.Decide.{ℕ_discrete, dec_lt}
use Rattle.book.specs.Entries.{entry_word, put_entry}
use Rattle.book.specs.Holders.{hit}
use Rattle.book.specs.Words.{Words, Vol, put, put2, put_words, set_word, set_two, set_words, word}
use Rattle.book.specs.Written.{put-here, put-page, put_word, put_words-here, put_words-page, put_words-low, put_words-high, set_word-here, set_word-other, set_words-in, set_words-low, set_words-high, word-pos, word-ext}
use Rattle.laws.specs.Tree.Slot.{Agree, hit_same}

-- outside the 32 words of entry n of its page
unfoldable pub Outside : ℕ → ℕ → Type 0
Outside n k = (k < 32 * (n % 32)) ⊎ (32 * (n % 32) + 32 ≤ k)

pub outside : (n m k : ℕ) → n % 32 ≢ m % 32 → k < 32 → Outside m (32 * (n % 32) + k)
unfolding Outside
outside n m k ne h = elim (dec_lt (n % 32) (m % 32)) [ yes l ↦ inl (omega arith) | no l ↦ inr (omega arith) ]

-- a volume that is v but for n words of page q from k on, which are those of w
pub row_is : (v x : Vol) (q k n : ℕ) (w : Words) → ((p i : ℕ) → p ≢ q → x p i ≡ v p i) → ((i : ℕ) → i < k → x q i ≡ v q i) → ((i : ℕ) → k + n ≤ i → x q i ≡ v q i)
    → ((j : ℕ) → j < n → x q (k + j) ≡ w j) → x ≡ put_words v q k n w
row_is v x q k n w off low high mid = fun_ext (λ p. fun_ext (λ i. at p i))
  where
    on : (i : ℕ) → x q i ≡ put_words v q k n w q i
    on i = elim (dec_lt i k) [
      | yes h ↦ low i h ∙ sym (put_words-low v q k n w q i h)
      | no h ↦ elim (dec_lt i (k + n)) [
        | no g ↦ high i (omega arith) ∙ sym (put_words-high v q k n w q i (omega arith))
        | yes g ↦ let e : i ≡ k + (i - k) = omega arith in ap (x q) e ∙ mid (i - k) (omega arith) ∙ sym (put_words-here v q k n w i (omega arith) g)
      ]
    ]

    at : (p i : ℕ) → x p i ≡ put_words v q k n w p i
    at p i = elim (ℕ_discrete p q) [
      | no a ↦ off p i a ∙ sym (put_words-page v q k n w p i a)
      | yes e ↦ ap (λ (z : ℕ). x z i) e ∙ on i ∙ sym (ap (λ (z : ℕ). put_words v q k n w z i) e)
    ]

module _ (v : Vol) (q k n : ℕ) where
  abbrev row : Words → Vol
  row w = put_words v q k n w

  pub row_at : (w : Words) (j : ℕ) → j < n → put_words v q k n w q (k + j) ≡ w j
  row_at w j h = let e : k + j - k ≡ j = omega arith in put_words-here v q k n w (k + j) (omega arith) (omega arith) ∙ ap w e

  -- one word
  pub put_entry-word : (w : Words) (j x : ℕ) → j < n → put (put_words v q k n w) q (k + j) x ≡ put_words v q k n (set_word w j x)
  put_entry-word w j x h = row_is v (put (row w) q (k + j) x) q k n (set_word w j x)
      (λ p i a. put-page (row w) q (k + j) x p i a ∙ put_words-page v q k n w p i a)
      (λ i l. put_word (row w) q (k + j) x q i (omega arith) ∙ put_words-low v q k n w q i l)
      (λ i l. put_word (row w) q (k + j) x q i (omega arith) ∙ put_words-high v q k n w q i l)
      (λ i l. elim (ℕ_discrete i j) [
        | yes e ↦ ap (λ (z : ℕ). put (row w) q (k + j) x q (k + z)) e ∙ put-here (row w) q (k + j) x ∙ sym (ap (set_word w j x) e ∙ set_word-here w j x)
        | no a ↦ put_word (row w) q (k + j) x q (k + i) (λ b. a (omega arith)) ∙ row_at w i l ∙ sym (set_word-other w j x i a)
      ])

  -- a two-word number
  pub put_entry-two : (w : Words) (j x : ℕ) → suc j < n → put2 (put_words v q k n w) q (k + j) x ≡ put_words v q k n (set_two w j x)
  unfolding put2 set_two
  put_entry-two w j x h =
      ap (λ (y : Vol). put y q (suc (k + j)) (x % 65536)) (put_entry-word w j (x / 65536) (omega arith))
      ∙ ap (λ (i : ℕ). put (row (set_word w j (x / 65536))) q i (x % 65536)) (sym (add-suc k j))
      ∙ put_entry-word (set_word w j (x / 65536)) (suc j) (x % 65536) h

  -- m words in a row
  pub put_entry-words : (w : Words) (j m : ℕ) (x : Words) → j + m ≤ n → put_words (put_words v q k n w) q (k + j) m x ≡ put_words v q k n (set_words w j m x)
  put_entry-words w j m x h = row_is v (put_words (row w) q (k + j) m x) q k n (set_words w j m x)
      (λ p i a. put_words-page (row w) q (k + j) m x p i a ∙ put_words-page v q k n w p i a)
      (λ i l. put_words-low (row w) q (k + j) m x q i (omega arith) ∙ put_words-low v q k n w q i l)
      (λ i l. put_words-high (row w) q (k + j) m x q i (omega arith) ∙ put_words-high v q k n w q i l)
      (λ i l. elim (dec_lt i j) [
        | yes a ↦ put_words-low (row w) q (k + j) m x q (k + i) (omega arith) ∙ row_at w i l ∙ sym (set_words-low w j m x i a)
        | no a ↦ elim (dec_lt i (j + m)) [
          | yes b ↦
              let e : k + i - (k + j) ≡ i - j = omega arith in
              put_words-here (row w) q (k + j) m x (k + i) (omega arith) (omega arith) ∙ ap x e ∙ sym (set_words-in w j m x i (omega arith) b)
          | no b ↦ put_words-high (row w) q (k + j) m x q (k + i) (omega arith) ∙ row_at w i l ∙ sym (set_words-high w j m x i (omega arith))
        ]
      ])

module _ (v : Vol) (q n : ℕ) (E : Words) where
  abbrev w : Vol
  w = put_entry v q n E

  pub entry-page : (p k : ℕ) → p ≢ q → w p k ≡ v p k
  entry-page p k h = put_words-page v q (entry_word n) 32 E p k h

  pub entry-agree : Agree (hit q) v w
  unfolding Agree
  entry-agree p h k = word-ext v w p k (λ i. entry-page p k (λ e. omega (arith, h, subst (λ (x : ℕ). hit x p ≡ 1) e (hit_same p i))))

  pub entry-outside : (k : ℕ) → Outside n k → word w q k ≡ word v q k
  unfolding Outside
  entry-outside k (inl h) = word-ext v w q k (λ i. put_words-low v q (entry_word n) 32 E q k h)
  entry-outside k (inr h) = word-ext v w q k (λ i. put_words-high v q (entry_word n) 32 E q k h)

  pub entry_here : 0 < q → (k : ℕ) → k < 32 → word w q (entry_word n + k) ≡ E k
  entry_here p k h = word-pos w q (entry_word n + k) p ∙ put_words-here v q (entry_word n) 32 E (entry_word n + k) (omega arith) (omega arith)
      ∙ ap E (let e : entry_word n + k - entry_word n ≡ k = omega arith in e)
