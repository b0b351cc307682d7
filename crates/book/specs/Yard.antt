-- The twelve marked yard examples: rows of a table, each with the numbers of the rules' own definitions beside the paper's. Assumes nothing.
use Rattle.std.specs.Prelude.{◌≡◌, refl, List, [], ◌∷◌, ℕ, ◌+◌}
use Rattle.sums.specs.Sum.{is}
use Rattle.sums.specs.Search.{pick}
use Rattle.book.specs.Words.{Words, set_word, zeros}
use Rattle.book.specs.Pointers.{flags, page, indexed, wrong}
use Rattle.book.specs.Trees.{slot_in, rest_in}
use Rattle.book.specs.Bits.{digit, bit_word, bit_place}
use Rattle.book.specs.Entries.{entry_page, entry_word, file_entry, one_more}
use Rattle.book.specs.Files.{cost, need}

-- numbers of our definitions beside the paper's
pub record Row : Type 0 where
  pub ours : List ℕ
  pub paper : List ℕ

abbrev pub example : List ℕ → List ℕ → Row
example a b = record { ours = a; paper = b }

-- the two words of a pointer
abbrev words : ℕ → ℕ → Words
words hi lo = set_word (set_word zeros 0 hi) 1 lo

-- a word of which page p's bit alone is set has 1 there
abbrev bit_of : ℕ → ℕ → List ℕ
bit_of p w = bit_word p ∷ bit_place p ∷ digit (bit_place p) w ∷ []

-- an entry's page in its file, and its first and last word there
abbrev place : ℕ → List ℕ
place n = entry_page n ∷ entry_word n ∷ (entry_word n + 31) ∷ []

-- a position's index block and slot
abbrev position : ℕ → List ℕ
position n = slot_in 1 n ∷ rest_in 1 n ∷ []

abbrev pub table : List Row
table =
    example (bit_of 77 8192) (4 ∷ 13 ∷ 1 ∷ [])
    ∷ example (bit_of 16383 32768) (1023 ∷ 15 ∷ 1 ∷ [])
    ∷ example (flags (words 16384 6) 0 ∷ page (words 16384 6) 0 ∷ []) (indexed ∷ 6 ∷ [])
    ∷ example (flags (words 49152 6) 0 ∷ []) (wrong ∷ [])
    ∷ example (position 511) (0 ∷ 511 ∷ [])
    ∷ example (position 512) (1 ∷ 0 ∷ [])
    ∷ example (file_entry 3 40 ∷ place (file_entry 3 40)) (808 ∷ 25 ∷ 256 ∷ 287 ∷ [])
    ∷ example (position (entry_page (file_entry 64 0))) (1 ∷ 0 ∷ [])
    ∷ example (place 33) (1 ∷ 32 ∷ 63 ∷ [])
    ∷ example (need 0 ∷ need 1 ∷ need 512 ∷ need 1024 ∷ []) (2 ∷ 1 ∷ 3 ∷ 2 ∷ [])
    ∷ example (cost 513 ∷ []) (516 ∷ [])
    ∷ example (one_more 65535 ∷ []) (0 ∷ [])
    ∷ []

-- each row's numbers are the paper's
unfoldable pub Right : List Row → Type 0
Right [] = Unit {0}
Right (r ∷ t) = (r.ours ≡ r.paper) × Right t

pub yard : Right table
unfolding Right is pick set_word flags page digit need cost
yard = (refl, (refl, (refl, (refl, (refl, (refl, (refl, (refl, (refl, (refl, (refl, (refl, tt))))))))))))
