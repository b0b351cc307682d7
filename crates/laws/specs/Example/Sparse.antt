-- Volumes written down cell by cell, all other words zero: for examples. Assumes nothing.
use Rattle.std.specs.Prelude.{◌≡◌, refl, ◌≢◌, List, [], ◌∷◌, ℕ, ◌+◌, ◌*◌, ◌/◌, ◌%◌, ◌≤◌, ◌<◌}
use Rattle.std.proofs.Math.Path.{ap}
use Rattle.std.proofs.Common.{◌∙◌}
use Rattle.std.proofs.Math.Decide.{ℕ_discrete, dec_lt}
use native.Mathlib.Omega.{arith}
use Rattle.book.specs.Words.{Vol, word, put}
use Rattle.book.specs.Pointers.{slot}
use Rattle.book.specs.Trees.{tree, leaf, page_at}
use Rattle.book.specs.Entries.{entry}
use Rattle.book.specs.Written.{put-page, put_word}
use Rattle.laws.specs.Frame.Roots.{upto-in, upto-out}
use Rattle.laws.specs.Tree.Slot.{word-zero}

-- word k of page p is x
pub record Cell : Type 0 where
  pub page : ℕ
  pub word : ℕ
  pub value : ℕ

abbrev pub cell : ℕ → ℕ → ℕ → Cell
cell p k x = record { page = p; word = k; value = x }

unfoldable pub volume : List Cell → Vol
volume [] = λ p k. 0
volume (c ∷ l) = put (volume l) c.page c.word c.value

-- no cell is word k of page p
unfoldable pub Off : List Cell → ℕ → ℕ → Type 0
Off [] p k = Unit {0}
Off (c ∷ l) p k = (p ≡ c.page → k ≢ c.word) × Off l p k

pub volume-off : (l : List Cell) (p k : ℕ) → Off l p k → volume l p k ≡ 0
unfolding volume Off
volume-off [] p k o = refl
volume-off (c ∷ l) p k o = elim (ℕ_discrete p c.page) [
  | yes e ↦ put_word (volume l) c.page c.word c.value p k (o.0 e) ∙ volume-off l p k o.1
  | no ne ↦ put-page (volume l) c.page c.word c.value p k ne ∙ volume-off l p k o.1
]

-- ---- a file of one level

module _ (v : Vol) (t : ℕ) where
  pub page-one : (n : ℕ) → n < 512 → page_at v (tree 1 t) n ≡ slot v t n
  unfolding page_at leaf
  page-one n h = let q : n / 1 ≡ n = omega arith in upto-in n 512 (slot v t (n / 1)) h ∙ ap (slot v t) q

  pub page-past : (n : ℕ) → 512 ≤ n → page_at v (tree 1 t) n ≡ 0
  unfolding page_at leaf
  page-past n h = upto-out n 512 (slot v t (n / 1)) h

  -- an index block with at most its first slot in use: entries from 32 on have only zeros
  pub entry_past : ((n : ℕ) → 0 < n → n < 512 → slot v t n ≡ 0) → (e k : ℕ) → 32 ≤ e → entry v (tree 1 t) e k ≡ 0
  unfolding entry
  entry_past z e k h = ap (λ (q : ℕ). word v q (32 * (e % 32) + k)) none ∙ word-zero v _
    where
      none : page_at v (tree 1 t) (e / 32) ≡ 0
      none = elim (dec_lt (e / 32) 512) [
        | yes l ↦ page-one (e / 32) l ∙ z (e / 32) (omega arith) l
        | no l ↦ page-past (e / 32) (omega arith)
      ]

  pub entry_first : (e k : ℕ) → e < 32 → entry v (tree 1 t) e k ≡ word v (slot v t 0) (32 * e + k)
  unfolding entry
  entry_first e k h =
      let a : e / 32 ≡ 0 = omega arith in let b : e % 32 ≡ e = omega arith in
      ap (λ (n : ℕ). word v (page_at v (tree 1 t) n) (32 * (e % 32) + k)) a ∙ ap (λ (q : ℕ). word v q (32 * (e % 32) + k)) (page-one 0 (omega arith))
      ∙ ap (λ (i : ℕ). word v (slot v t 0) (32 * i + k)) b

  -- with no slot in use there are only zeros
  pub entry-bare : ((n : ℕ) → n < 512 → slot v t n ≡ 0) → (e k : ℕ) → entry v (tree 1 t) e k ≡ 0
  entry-bare z e k = elim (dec_lt e 32) [
    | yes h ↦ entry_first e k h ∙ ap (λ (q : ℕ). word v q (32 * e + k)) (z 0 (omega arith)) ∙ word-zero v _
    | no h ↦ entry_past (λ n a b. z n b) e k (omega arith)
  ]
