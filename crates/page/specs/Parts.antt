-- Rows of words, and of bytes in them, that helpers read and write. Assumes nothing.
use Rattle.std.specs.Prelude.{◌≡◌, List, ℕ, ◌+◌, ◌/◌, ◌%◌, ◌<◌, ◌≤◌, get_or}
use Rattle.book.specs.Words.{Words, Vol}
use Rattle.book.specs.Names.{Letter, byte_at}

-- the first n words of a part are those of w
abbrev pub Begins : ℕ → List ℕ → Words → Type 0
Begins n xs w = (k : ℕ) → k < n → get_or xs k 0 ≡ w k

-- word i of the pages from p on
abbrev pub word_from : Vol → ℕ → ℕ → ℕ
word_from v p i = v (p + i / 1024) (i % 1024)

-- of the n bytes from word k on, those before byte l are letters, and byte l is not
pub record Letters (n : ℕ) (w : Words) (k l : ℕ) : Type 0 where
  pub most : l ≤ n
  pub before : (i : ℕ) → i < l → Letter (byte_at w k i)
  pub stops : l < n → Letter (byte_at w k l) → ⊥
