-- Places: the words of a volume that a step may change, and that it leaves all others. Assumes nothing.
use Rattle.std.specs.Prelude.{◌≡◌, ◌⊎◌, ℕ, ◌+◌, ◌≤◌, ◌<◌, ◌*◌}
use Rattle.std.proofs.Common.{◌∙◌, sym, subst, inl, inr, arith}
use Rattle.std.proofs.Math.Decide.{ℕ_discrete, dec_lt}
use Rattle.book.specs.Bits.{bit_page, bit_word, mark, claim}
use Rattle.book.specs.Entries.{entry_word}
use Rattle.book.specs.Pointers.{unreserved_count, set_slot}
use Rattle.book.specs.Words.{Words, Vol, put, put2, put_words, wipe}
use Rattle.book.specs.Written.{put-page, put_word, put2-page, put2-word, put_words-page, put_words-low, put_words-high, wipe-page}

-- which words: word k of page p
abbrev pub Places : Type 1
Places = ℕ → ℕ → Type 0

-- page q
abbrev pub PageOf : ℕ → Places
PageOf q p k = p ≡ q

-- the n pages from s on
abbrev pub RunOf : ℕ → ℕ → Places
RunOf s n p k = (s ≤ p) × (p < s + n)

-- the n words from j on of page q
abbrev pub WordsOf : ℕ → ℕ → ℕ → Places
WordsOf q j n p k = (p ≡ q) × (j ≤ k) × (k < j + n)

-- entry n of page q, and its m words from word j on
abbrev pub EntryOf : ℕ → ℕ → Places
EntryOf q n = WordsOf q (entry_word n) 32

abbrev pub FieldOf : ℕ → ℕ → ℕ → ℕ → Places
FieldOf q n j m = WordsOf q (entry_word n + j) m

-- the unreserved pages' two words of page 0
abbrev pub UnreservedWords : Places
UnreservedWords = WordsOf 0 unreserved_count 2

abbrev pub Either : Places → Places → Places
Either A B p k = A p k ⊎ B p k

-- word k of page p is none of these
abbrev pub Apart : Places → Places
Apart A p k = A p k → ⊥

-- v' is v in all words but these
abbrev pub OnlyAt : Places → Vol → Vol → Type 0
OnlyAt A v v' = (p k : ℕ) → Apart A p k → v' p k ≡ v p k

-- ---- laws

pub only_wider : (A B : Places) (v v' : Vol) → ((p k : ℕ) → A p k → B p k) → OnlyAt A v v' → OnlyAt B v v'
only_wider A B v v' w o p k a = o p k (λ h. a (w p k h))

-- one step after the other
pub only_then : (A B : Places) (v v₁ v₂ : Vol) → OnlyAt A v v₁ → OnlyAt B v₁ v₂ → OnlyAt (Either A B) v v₂
only_then A B v v₁ v₂ o l p k a = l p k (λ h. a (inr h)) ∙ o p k (λ h. a (inl h))

-- a word apart from both
pub only-either : (A B : Places) (v v' : Vol) → OnlyAt (Either A B) v v' → (p k : ℕ) → Apart A p k → Apart B p k → v' p k ≡ v p k
only-either A B v v' o p k a b = o p k (λ h. elim h [ inl x ↦ a x | inr y ↦ b y ])

module _ (v : Vol) (q : ℕ) where
  pub only-put : (j x : ℕ) → OnlyAt (WordsOf q j 1) v (put v q j x)
  only-put j x p k a = elim (ℕ_discrete p q) [
    | yes e ↦ put_word v q j x p k (λ i. a (e, omega arith, omega arith))
    | no n ↦ put-page v q j x p k n
  ]

  pub only-put2 : (j x : ℕ) → OnlyAt (WordsOf q j 2) v (put2 v q j x)
  only-put2 j x p k a = elim (ℕ_discrete p q) [
    | yes e ↦ put2-word v q j x p k (λ i. a (e, omega arith, omega arith)) (λ i. a (e, omega arith, omega arith))
    | no n ↦ put2-page v q j x p k n
  ]

  -- a word of the row, or one that stays
  pub at-put_words : (j n : ℕ) (w : Words) (p k : ℕ) → (put_words v q j n w p k ≡ v p k) ⊎ WordsOf q j n p k
  at-put_words j n w p k = elim (ℕ_discrete p q) [
    | no d ↦ inl (put_words-page v q j n w p k d)
    | yes e ↦ elim (dec_lt k j) [
      | yes h ↦ inl (put_words-low v q j n w p k h)
      | no h ↦ elim (dec_lt k (j + n)) [
        | yes i ↦ inr (e, omega arith, i)
        | no i ↦ inl (put_words-high v q j n w p k (omega arith))
      ]
    ]
  ]

  pub only-put_words : (j n : ℕ) (w : Words) → OnlyAt (WordsOf q j n) v (put_words v q j n w)
  only-put_words j n w p k a = elim (at-put_words j n w p k) [ inl e ↦ e | inr h ↦ absurd (a h) ]

  pub only-wipe : OnlyAt (PageOf q) v (wipe v q)
  only-wipe p k a = wipe-page v q p k a

-- ---- a slot, a bit, a page taken

pub only-trans : (A : Places) (u v w : Vol) → OnlyAt A u v → OnlyAt A v w → OnlyAt A u w
only-trans A u v w a b p k h = b p k h ∙ a p k h

pub only-slot : (A : Places) (v : Vol) (b k d : ℕ) → ((p j : ℕ) → WordsOf b (2 * k) 2 p j → A p j) → OnlyAt A v (set_slot v b k d)
unfolding set_slot
only-slot A v b k d w = only_wider (WordsOf b (2 * k) 2) A v _ w (only-put2 v b (2 * k) d)

pub only-mark : (A : Places) (P : ℕ) (v : Vol) (d x : ℕ) → ((p j : ℕ) → WordsOf (bit_page P v d) (bit_word d) 1 p j → A p j) → OnlyAt A v (mark P v d x)
unfolding mark
only-mark A P v d x w = only_wider (WordsOf (bit_page P v d) (bit_word d) 1) A v _ w (only-put v (bit_page P v d) (bit_word d) _)

pub only-claim : (A : Places) (P : ℕ) (v : Vol) (d : ℕ) → ((p j : ℕ) → WordsOf (bit_page P v d) (bit_word d) 1 p j → A p j) → ((j : ℕ) → A d j) → OnlyAt A v (claim P v d)
unfolding claim
only-claim A P v d w c = only-trans A v (mark P v d 1) _ (only-mark A P v d 1 w) (only_wider (PageOf d) A _ _ (λ p j e. subst (λ (q : ℕ). A q j) (sym e) (c j)) (only-wipe (mark P v d 1) d))
