-- The words of a new user's entry and of a new file's. Assumes nothing.
use Rattle.std.specs.Prelude.{◌≡◌, List, ℕ, suc, ◌+◌, ◌-◌, ◌/◌, ◌≤◌, ◌<◌}
use Rattle.std.proofs.Math.Path.{ap}
use Rattle.std.proofs.Common.{◌∙◌}
use native.Mathlib.Omega.{arith}
use Rattle.book.specs.Create.{user_entry, object_entry}
use Rattle.book.specs.Entries.{used}
use Rattle.book.specs.Files.{bytes_of}
use Rattle.book.specs.Names.{NameText, TypeText, packed, Named, Typed}
use Rattle.book.specs.Pointers.{flags, page}
use Rattle.laws.specs.File.Packed.{packed-back}
use Rattle.book.specs.Words.{Words, two, set_word, set_two, set_words, zeros}
use Rattle.book.specs.Written.{set_word-here, set_word-other, set_two-hi, set_two-lo, set_two-two, set_two-other, set_words-in, set_words-low, set_words-high}
use Rattle.laws.specs.Tree.Slot.{two-ext}

-- ---- a user's

module _ (u : ℕ) (name : List ℕ) where
  abbrev a : Words
  a = set_word zeros 0 32768

  abbrev b : Words
  b = set_words a 1 8 (packed name)

  pub user-used : used (user_entry u name) ≡ 1
  unfolding user_entry used
  user-used = ap (λ (x : ℕ). x / 32768) (set_word-other b 18 u 0 (omega arith) ∙ set_words-low a 1 8 (packed name) 0 (omega arith) ∙ set_word-here zeros 0 32768)

  pub user-name : (i : ℕ) → i < 8 → user_entry u name (1 + i) ≡ packed name i
  unfolding user_entry
  user-name i h = set_word-other b 18 u (1 + i) (omega arith) ∙ set_words-in a 1 8 (packed name) (1 + i) (omega arith) (omega arith)
      ∙ ap (packed name) (let q : 1 + i - 1 ≡ i = omega arith in q)

  -- an entry with these words reads as it was named
  pub user-named : NameText name → (w : Words) → ((k : ℕ) → k < 32 → w k ≡ user_entry u name k) → Named w name
  user-named T w h = packed-back 1 16 name T w 1 (λ i l. h (1 + i / 2) (omega arith) ∙ user-name (i / 2) (omega arith))

  pub user-own : user_entry u name 18 ≡ u
  unfolding user_entry
  user-own = set_word-here b 18 u

  pub user-zero : (k : ℕ) → 9 ≤ k → k < 18 → user_entry u name k ≡ 0
  unfolding user_entry
  user-zero k h l = set_word-other b 18 u k (omega arith) ∙ set_words-high a 1 8 (packed name) k (omega arith) ∙ set_word-other zeros 0 32768 k (omega arith)

-- ---- a file's

module _ (u e : ℕ) (name type : List ℕ) (created n ptr : ℕ) where
  abbrev w₁ : Words
  w₁ = set_word zeros 0 32768

  abbrev w₂ : Words
  w₂ = set_words w₁ 1 8 (packed name)

  abbrev w₃ : Words
  w₃ = set_words w₂ 9 2 (packed type)

  abbrev w₄ : Words
  w₄ = set_word w₃ 16 u

  abbrev w₅ : Words
  w₅ = set_word w₄ 17 e

  abbrev w₆ : Words
  w₆ = set_two w₅ 20 created

  abbrev w₇ : Words
  w₇ = set_two w₆ 26 n

  abbrev w₈ : Words
  w₈ = set_two w₇ 28 (bytes_of n)

  abbrev E : Words
  E = object_entry u e name type created n ptr

  -- words before 20, and before 16
  before-20 : (k : ℕ) → k < 20 → E k ≡ w₅ k
  unfolding object_entry
  before-20 k h = set_two-other w₈ 30 ptr k (omega arith) (omega arith) ∙ set_two-other w₇ 28 (bytes_of n) k (omega arith) (omega arith)
      ∙ set_two-other w₆ 26 n k (omega arith) (omega arith) ∙ set_two-other w₅ 20 created k (omega arith) (omega arith)

  before-16 : (k : ℕ) → k < 16 → E k ≡ w₃ k
  before-16 k h = before-20 k (omega arith) ∙ set_word-other w₄ 17 e k (omega arith) ∙ set_word-other w₃ 16 u k (omega arith)

  pub new-used : used E ≡ 1
  unfolding used
  new-used = ap (λ (x : ℕ). x / 32768) (before-16 0 (omega arith) ∙ set_words-low w₂ 9 2 (packed type) 0 (omega arith) ∙ set_words-low w₁ 1 8 (packed name) 0 (omega arith) ∙ set_word-here zeros 0 32768)

  pub file-name : (i : ℕ) → i < 8 → E (1 + i) ≡ packed name i
  file-name i h = before-16 (1 + i) (omega arith) ∙ set_words-low w₂ 9 2 (packed type) (1 + i) (omega arith) ∙ set_words-in w₁ 1 8 (packed name) (1 + i) (omega arith) (omega arith)
      ∙ ap (packed name) (let q : 1 + i - 1 ≡ i = omega arith in q)

  pub file_type : (i : ℕ) → i < 2 → E (9 + i) ≡ packed type i
  file_type i h = before-16 (9 + i) (omega arith) ∙ set_words-in w₂ 9 2 (packed type) (9 + i) (omega arith) (omega arith) ∙ ap (packed type) (let q : 9 + i - 9 ≡ i = omega arith in q)

  pub file-named : NameText name → (w : Words) → ((k : ℕ) → k < 32 → w k ≡ E k) → Named w name
  file-named T w h = packed-back 1 16 name T w 1 (λ i l. h (1 + i / 2) (omega arith) ∙ file-name (i / 2) (omega arith))

  pub file-typed : TypeText type → (w : Words) → ((k : ℕ) → k < 32 → w k ≡ E k) → Typed w type
  file-typed T w h = packed-back 0 4 type T w 9 (λ i l. h (9 + i / 2) (omega arith) ∙ file_type (i / 2) (omega arith))

  pub file-whose : E 16 ≡ u
  file-whose = before-20 16 (omega arith) ∙ set_word-other w₄ 17 e 16 (omega arith) ∙ set_word-here w₃ 16 u

  pub file-number : E 17 ≡ e
  file-number = before-20 17 (omega arith) ∙ set_word-here w₄ 17 e

  -- pages, bytes and pointer
  two-of : (w x : Words) (k y : ℕ) → ((j : ℕ) → k ≤ j → j < k + 2 → w j ≡ x j) → two x k ≡ y → two w k ≡ y
  two-of w x k y h q = two-ext w x k (h k (omega arith) (omega arith)) (h (suc k) (omega arith) (omega arith)) ∙ q

  pub file-created : two E 20 ≡ created
  unfolding object_entry
  file-created = two-of E w₆ 20 created (λ j h l. set_two-other w₈ 30 ptr j (omega arith) (omega arith) ∙ set_two-other w₇ 28 (bytes_of n) j (omega arith) (omega arith)
      ∙ set_two-other w₆ 26 n j (omega arith) (omega arith)) (set_two-two w₅ 20 created)

  pub file-pages : two E 26 ≡ n
  unfolding object_entry
  file-pages = two-of E w₇ 26 n (λ j h l. set_two-other w₈ 30 ptr j (omega arith) (omega arith) ∙ set_two-other w₇ 28 (bytes_of n) j (omega arith) (omega arith)) (set_two-two w₆ 26 n)

  pub file-bytes : two E 28 ≡ bytes_of n
  unfolding object_entry
  file-bytes = two-of E w₈ 28 (bytes_of n) (λ j h l. set_two-other w₈ 30 ptr j (omega arith) (omega arith)) (set_two-two w₇ 28 (bytes_of n))

  pub file-flags : ptr < 1073741824 → flags E 30 ≡ 0
  unfolding object_entry flags
  file-flags h = omega (arith, set_two-hi w₈ 30 ptr)

  pub file-page : ptr < 1073741824 → page E 30 ≡ ptr
  unfolding object_entry page
  file-page h = omega (arith, set_two-hi w₈ 30 ptr, set_two-lo w₈ 30 ptr)
