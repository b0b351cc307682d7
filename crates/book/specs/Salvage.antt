-- Salvage (T-05): the volume with bits, used counts and unreserved made anew from its pointers, and the words that differ then. Assumes nothing.
use Rattle.std.specs.Prelude.{List, [], ◌∷◌, ◌++◌, ℕ, zero, suc, ◌+◌, ◌-◌, ◌/◌, ◌%◌, ◌≤◌, ◌<◌}
use Rattle.sums.specs.Sum.{sum, is}
use Rattle.sums.specs.Search.{pick}
use Rattle.book.specs.Words.{Vol, put2}
use Rattle.book.specs.Pointers.{unreserved_count}
use Rattle.book.specs.Bits.{mark_all}
use Rattle.book.specs.Entries.{user, used, given, grant, user_page, entry_word}
use Rattle.book.specs.Holders.{mine, some, holders, system_pages}
use Rattle.book.specs.declared.Change.{Change}

-- ---- the volume afterwards

-- the used count of each used user below n becomes what his files hold
unfoldable pub counted : Vol → ℕ → Vol
counted v zero = v
counted v (suc u) = pick (used (user v u)) (put2 (counted v u) (user_page v u) (entry_word u + 16) (mine v u some)) (counted v u)

-- the pages given to used users, and the system pages
unfoldable pub spent : ℕ → Vol → ℕ
spent P v = sum 256 (grant (user v)) + system_pages P v

-- all used counts, and as unreserved what is left of P
unfoldable pub balanced : ℕ → Vol → Vol
balanced P v = put2 (counted v 256) 0 unreserved_count (P - spent P v)

-- and the bit of each page below P tells whether it is held
unfoldable pub mended : ℕ → Vol → Vol
mended P v = mark_all P (balanced P v) (λ p. some (holders P v p)) P

-- 13 asks: no used user holds more than he was given, and the sum leaves nothing below zero
pub record Affords (P : ℕ) (v : Vol) : Type 0 where
  pub users : (u : ℕ) → u < 256 → 0 < used (user v u) → mine v u some ≤ given (user v) u
  pub left : spent P v ≤ P

-- ---- the words that differ, in ascending place

-- place i is word i % 1024 of page i / 1024: places ascend by page, then by word
abbrev pub word_at : Vol → ℕ → ℕ
word_at v i = v (i / 1024) (i % 1024)

-- 1 if the two volumes differ at place i, else 0
unfoldable pub differ : Vol → Vol → ℕ → ℕ
differ v w i = 1 - is (word_at v i) (word_at w i)

abbrev pub change : Vol → Vol → ℕ → Change
change v w i = record { page = i / 1024; word = i % 1024; old = word_at v i; new = word_at w i }

-- the changes from v to w at the places below n
unfoldable pub changes : Vol → Vol → ℕ → List Change
changes v w zero = []
changes v w (suc n) = changes v w n ++ pick (differ v w n) (change v w n ∷ []) []

-- their number
unfoldable pub changed : Vol → Vol → ℕ → ℕ
changed v w n = sum n (differ v w)
