-- A new entry as the code writes it: one field after the other. Assumes nothing.
use mathlib.Core.Path.{◌≡◌, sym, ap, ◌∙◌}
use mathlib.Core.List.{List}
use Prim.Native.Nat.{ℕ, ◌+◌, ◌≤◌, ◌<◌}
use native.Mathlib.Nat.{add-zero}
use native.Mathlib.Omega.{arith}
use Rattle.book.specs.Words.{Words, Vol, put, put2, put_words, set_word, set_two, set_words, zeros}
use Rattle.book.specs.Entries.{put_entry, entry_word}
use Rattle.book.specs.Names.{packed}
use Rattle.book.specs.Create.{user_entry, object_entry}
use Rattle.book.specs.Files.{bytes_of}
use Rattle.laws.specs.Frame.Fields.{put_entry-word, put_entry-two, put_entry-words}
use Rattle.making.specs.Entry.{begun, numbered}

module _ (v : Vol) (q k : ℕ) where
  -- a field more
  word_more : (y z : Vol) (w : Words) (j x : ℕ) → j < 32 → y ≡ put_words v q k 32 w → z ≡ put y q (k + j) x → z ≡ put_words v q k 32 (set_word w j x)
  word_more y z w j x h a b = b ∙ ap (λ (i : Vol). put i q (k + j) x) a ∙ put_entry-word v q k 32 w j x h

  two-more : (y z : Vol) (w : Words) (j x : ℕ) → j < 31 → y ≡ put_words v q k 32 w → z ≡ put2 y q (k + j) x → z ≡ put_words v q k 32 (set_two w j x)
  two-more y z w j x h a b = b ∙ ap (λ (i : Vol). put2 i q (k + j) x) a ∙ put_entry-two v q k 32 w j x (omega arith)

  words_more : (y z : Vol) (w : Words) (j m : ℕ) (x : Words) → j + m ≤ 32 → y ≡ put_words v q k 32 w → z ≡ put_words y q (k + j) m x → z ≡ put_words v q k 32 (set_words w j m x)
  words_more y z w j m x h a b = b ∙ ap (λ (i : Vol). put_words i q (k + j) m x) a ∙ put_entry-words v q k 32 w j m x h

  pub begun-is : (v₁ v₂ w : Vol) (name : List ℕ) → v₁ ≡ put_words v q k 32 zeros → v₂ ≡ put v₁ q k 32768 → w ≡ put_words v₂ q (k + 1) 8 (packed name) → w ≡ put_words v q k 32 (begun name)
  unfolding begun
  begun-is v₁ v₂ w name a b c =
      words_more v₂ w (set_word zeros 0 32768) 1 8 (packed name) (omega arith)
      (word_more v₁ v₂ zeros 0 32768 (omega arith) a (b ∙ ap (λ (i : ℕ). put v₁ q i 32768) (sym (add-zero k)))) c

  pub user-entry-is : (v₁ w : Vol) (u : ℕ) (name : List ℕ) → k ≡ entry_word u → v₁ ≡ put_words v q k 32 (begun name) → w ≡ put v₁ q (k + 18) u → w ≡ put_entry v q u (user_entry u name)
  unfolding begun user_entry
  user-entry-is v₁ w u name e a b = word_more v₁ w (begun name) 18 u (omega arith) a b ∙ ap (λ (i : ℕ). put_words v q i 32 (user_entry u name)) e

  -- the entry was w before, and y₀ has it
  pub numbered_is : (w : Words) (y₀ y₁ y₂ y₃ y₄ y₅ y₆ : Vol) (u e created n ptr : ℕ) → y₁ ≡ put y₀ q (k + 16) u → y₂ ≡ put y₁ q (k + 17) e → y₃ ≡ put2 y₂ q (k + 20) created
      → y₄ ≡ put2 y₃ q (k + 26) n → y₅ ≡ put2 y₄ q (k + 28) (bytes_of n) → y₆ ≡ put2 y₅ q (k + 30) ptr → y₀ ≡ put_words v q k 32 w → y₆ ≡ put_words v q k 32 (numbered w u e created n ptr)
  unfolding numbered
  numbered_is w y₀ y₁ y₂ y₃ y₄ y₅ y₆ u e created n ptr e₁ e₂ e₃ e₄ e₅ e₆ e₀ =
      two-more y₅ y₆ _ 30 ptr (omega arith) (two-more y₄ y₅ _ 28 (bytes_of n) (omega arith) (two-more y₃ y₄ _ 26 n (omega arith) (two-more y₂ y₃ _ 20 created (omega arith)
      (word_more y₁ y₂ _ 17 e (omega arith) (word_more y₀ y₁ w 16 u (omega arith) e₀ e₁) e₂) e₃) e₄) e₅) e₆

  pub object-entry-is : (v₁ v₂ w : Vol) (u e : ℕ) (name type : List ℕ) (created n ptr : ℕ) → k ≡ entry_word e → v₁ ≡ put_words v q k 32 (begun name) → v₂ ≡ put_words v₁ q (k + 9) 2 (packed type)
      → ((x : Vol) (i : Words) → v₂ ≡ put_words x q k 32 i → w ≡ put_words x q k 32 (numbered i u e created n ptr)) → w ≡ put_entry v q e (object_entry u e name type created n ptr)
  unfolding begun numbered object_entry
  object-entry-is v₁ v₂ w u e name type created n ptr h a b c =
      c v (set_words (begun name) 9 2 (packed type)) (words_more v₁ v₂ (begun name) 9 2 (packed type) (omega arith) a b)
      ∙ ap (λ (i : ℕ). put_words v q i 32 (object_entry u e name type created n ptr)) h
