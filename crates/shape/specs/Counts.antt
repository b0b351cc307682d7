-- What the sums of rule 10 add up. Assumes nothing.
use Rattle.std.specs.Prelude.{◌≡◌, ℕ, ◌+◌, ◌*◌, ◌≤◌, ◌<◌}
use Rattle.sums.specs.Sum.{sum}
use Rattle.sums.specs.Search.{pick}
use Rattle.book.specs.Entries.{object, user, used}
use Rattle.book.specs.Words.{Words, Vol, two}
use Rattle.laws.specs.Count.Charge.{entry_pages}

-- the pages of the files whose entries are at position n of the object file
abbrev pub pages_at : Vol → ℕ → ℕ
pages_at v n = sum 32 (λ k. entry_pages (object v (32 * n + k)))

-- those of user u's files: eight positions
abbrev pub pages_of : Vol → ℕ → ℕ
pages_of v u = sum 8 (λ i. pages_at v (8 * u + i))

-- ---- users

-- the number at word k of an entry, 0 of an unused one
unfoldable pub count_in : ℕ → Words → ℕ
count_in k w = pick (used w) (two w k) 0

-- user u, whose entry has the words w, is unused, or his used pages are those of his files
abbrev pub CountRight : Vol → ℕ → Words → Type 0
CountRight v u w = 0 < used w → two w 16 ≡ pages_of v u

-- the same of users a to z - 1
abbrev pub UsersRight : Vol → ℕ → ℕ → Type 0
UsersRight v a z = (u : ℕ) → u < z → a ≤ u → CountRight v u (user v u)
