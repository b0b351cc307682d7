-- The words of a name without what stands behind its end. Assumes nothing.
use Rattle.std.specs.Prelude.{◌≡◌, ℕ, ◌*◌, ◌/◌, ◌%◌, ◌≤◌, ◌<◌, get_or}
use Rattle.sums.specs.Search.{pick}
use Rattle.book.specs.Words.{Words}
use Rattle.book.specs.Names.{ends, end_of, stored}

-- a word of a name that did not end before it: its bytes up to the end, then zeros
unfoldable pub cut_word : ℕ → ℕ
cut_word w = pick (ends (w / 256)) 0 (pick (ends (w % 256)) (w / 256 * 256) w)

-- two names in fields of n bytes that are the same in i words, in which neither ends
pub record Alike (n : ℕ) (w : Words) (k : ℕ) (x : Words) (j i : ℕ) : Type 0 where
  pub first : 2 * i ≤ end_of n w k
  pub second : 2 * i ≤ end_of n x j
  pub same : (b : ℕ) → b < 2 * i → get_or (stored n w k) b 0 ≡ get_or (stored n x j) b 0
