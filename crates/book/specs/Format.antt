-- Format: the directory entry and the bit file are written, every other word stays. Assumes nothing.
use Rattle.std.specs.Prelude.{List, ℕ, zero, suc, ◌+◌, ◌-◌, ◌/◌}
use Rattle.book.specs.Words.{Vol, put2, put_words, wipe}
use Rattle.book.specs.Pointers.{pointer, plain, user_pointer, object_pointer, bit_pointer, unreserved_count, volume_name}
use Rattle.book.specs.Bits.{bit_pages, mark}
use Rattle.book.specs.Names.{packed}

-- the n pages from s on become zeros; their bits become 1
unfoldable pub wipe_run : Vol → ℕ → ℕ → Vol
wipe_run v s zero = v
wipe_run v s (suc n) = wipe (wipe_run v s n) (s + n)

unfoldable pub mark_run : ℕ → Vol → ℕ → ℕ → Vol
mark_run P v s zero = v
mark_run P v s (suc n) = mark P (mark_run P v s n) (s + n) 1

-- where the bit file begins by default
abbrev pub middle : ℕ → ℕ
middle P = P / 2

-- the directory entry of a new volume: its name, no users and no objects, the bit file at b, all but the master page and the bit file unreserved
unfoldable pub directory : ℕ → Vol → List ℕ → ℕ → Vol
directory P v name b =
    put2 (put2 (put2 (put2 (put_words v 0 volume_name 8 (packed name)) 0 object_pointer 0) 0 user_pointer 0) 0 bit_pointer (pointer plain b)) 0 unreserved_count (P - 1 - bit_pages P)

-- only the master page and the bit file are reserved
unfoldable pub format : ℕ → Vol → List ℕ → ℕ → Vol
format P v name b = mark_run P (mark P (wipe_run (directory P v name b) b (bit_pages P)) 0 1) b (bit_pages P)
