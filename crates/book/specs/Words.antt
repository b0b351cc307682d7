-- Volumes: pages of words; two-word numbers; what a write leaves. Assumes nothing.
use Rattle.std.specs.Prelude.{List, ℕ, zero, suc, ◌+◌, ◌-◌, ◌*◌, ◌/◌, ◌%◌, get_or, take, drop}
use Rattle.sums.specs.Sum.{is}
use Rattle.sums.specs.Search.{pick, at_least}

-- the words of one page, or of one entry: word k
abbrev pub Words : Type 0
Words = ℕ → ℕ

-- a volume: word k of page p
abbrev pub Vol : Type 0
Vol = ℕ → Words

-- the volume of an image: page p is its part of 1,024 words from word 1,024 p on; past its end there are zeros
unfoldable pub vol : List ℕ → Vol
vol img p k = get_or (take 1024 (drop (1024 * p) img)) k 0

-- a two-word number, the more significant word first
unfoldable pub two : Words → ℕ → ℕ
two w k = w k * 65536 + w (suc k)

-- word k of the page that a pointer names: page number 0 there means no page, which has only zeros
unfoldable pub word : Vol → ℕ → ℕ → ℕ
word v zero k = 0
word v (suc p) k = v (suc p) k

-- ---- writes

-- word j of page q becomes x
unfoldable pub put : Vol → ℕ → ℕ → ℕ → Vol
put v q j x p k = pick (is p q * is k j) x (v p k)

-- the two-word number at word j of page q becomes x
unfoldable pub put2 : Vol → ℕ → ℕ → ℕ → Vol
put2 v q j x = put (put v q j (x / 65536)) q (suc j) (x % 65536)

-- 1 for the n words from j on
abbrev pub among : ℕ → ℕ → ℕ → ℕ
among j n k = at_least j k * at_least (suc k) (j + n)

-- the n words from j on of page q become those of w
unfoldable pub put_words : Vol → ℕ → ℕ → ℕ → Words → Vol
put_words v q j n w p k = pick (is p q * among j n k) (w (k - j)) (v p k)

-- page q becomes zeros
unfoldable pub wipe : Vol → ℕ → Vol
wipe v q p k = pick (is p q) 0 (v p k)

-- ---- the words of an entry, made one field after the other

unfoldable pub set_word : Words → ℕ → ℕ → Words
set_word w j x k = pick (is k j) x (w k)

unfoldable pub set_two : Words → ℕ → ℕ → Words
set_two w j x = set_word (set_word w j (x / 65536)) (suc j) (x % 65536)

unfoldable pub set_words : Words → ℕ → ℕ → Words → Words
set_words w j n x k = pick (among j n k) (x (k - j)) (w k)

-- a cleared entry
abbrev pub zeros : Words
zeros k = 0
