-- The words of a new entry, as far as they are written. Assumes nothing.
use Rattle.std.specs.Prelude.{List, ℕ}
use Rattle.book.specs.Words.{Words, set_word, set_two, set_words, zeros}
use Rattle.book.specs.Names.{packed}
use Rattle.book.specs.Files.{bytes_of}

-- used, and named: what users and objects have alike
unfoldable pub begun : List ℕ → Words
begun name = set_words (set_word zeros 0 32768) 1 8 (packed name)

-- the numbers of an object
unfoldable pub numbered : Words → ℕ → ℕ → ℕ → ℕ → ℕ → Words
numbered w u e created n ptr = set_two (set_two (set_two (set_two (set_word (set_word w 16 u) 17 e) 20 created) 26 n) 28 (bytes_of n)) 30 ptr
