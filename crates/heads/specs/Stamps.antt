-- A table of stamps that tells which names were met before: equal names have the same two slots. Assumes nothing.
use Rattle.std.specs.Prelude.{◌≡◌, List, ℕ, zero, suc, ◌+◌, ◌*◌, ◌/◌, ◌%◌, ◌<◌, length, get_or}
use Rattle.book.specs.Words.{Words}
use Rattle.book.specs.Entries.{Table, used}
use Rattle.book.specs.Names.{words_of, stored}
use Rattle.heads.specs.Span.{Span}

-- one word more
abbrev pub mix : ℕ → ℕ → ℕ
mix h x = (h + x) * 1597334677 % 4294967296

-- h and the first n words of x in one number
unfoldable pub hash : ℕ → Words → ℕ → ℕ
hash h x zero = h
hash h x (suc n) = mix (hash h x n) (x n)

-- h and a name, up to its end
unfoldable pub hash_of : ℕ → List ℕ → ℕ
hash_of h s = hash h (words_of s) ((length s + 1) / 2)

-- the number of an entry's name and of its type in n bytes
abbrev pub title_hash : ℕ → Words → ℕ
title_hash n w = hash_of (hash_of 0 (stored 16 w 1)) (stored n w 9)

-- its two slots
abbrev pub low_place : ℕ → Words → ℕ
low_place n w = title_hash n w / 256 % 4096

abbrev pub high_place : ℕ → Words → ℕ
high_place n w = title_hash n w / 1048576

-- the stamp of the 256 entries from `base` on; a new table has only zeros
abbrev pub stamp_of : ℕ → ℕ
stamp_of base = base / 256 + 1

-- each used entry from `base` on below y has its slot p stamped
abbrev pub Met : Table → (Words → ℕ) → ℕ → ℕ → List ℕ → Type 0
Met E p base y T = Span (λ x. 0 < used (E x) → get_or T (p (E x)) 0 ≡ stamp_of base) base y

-- a table in which each of them has both slots stamped
pub record Stamped (E : Table) (n base y : ℕ) (T : List ℕ) : Type 0 where
  pub size : length T ≡ 4096
  pub low : Met E (low_place n) base y T
  pub high : Met E (high_place n) base y T
