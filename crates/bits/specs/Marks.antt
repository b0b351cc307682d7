-- Marks: one bit a page, page p in bit p % 16, from the right, of word p / 16. Assumes nothing.
use Rattle.std.specs.Prelude.{◌≡◌, Bool, true, false, List, ℕ, ◌+◌, ◌*◌, ◌/◌, ◌%◌, ◌≤◌, length, get_or}
use Rattle.sums.specs.Sum.{is}
use Rattle.book.specs.Bits.{digit}

-- 1 if page p is marked, else 0
unfoldable pub marked : List ℕ → ℕ → ℕ
marked m p = digit (p % 16) (get_or m (p / 16) 0)

-- marks for P pages, none of which is marked
pub record Unmarked (P : ℕ) (m : List ℕ) : Type 0 where
  pub room : P ≤ 16 * length m
  pub none : (p : ℕ) → marked m p ≡ 0

-- page p was not marked in m, and is in m', and no other differs
pub record Newly (m : List ℕ) (p : ℕ) (m' : List ℕ) : Type 0 where
  pub new : marked m p ≡ 0
  pub more : (q : ℕ) → marked m' q ≡ marked m q + is p q
  pub kept : length m' ≡ length m

-- what marking page p answers: that it is done, or that the page was marked already and nothing is done
abbrev pub Marking : List ℕ → ℕ → List ℕ → Bool → Type 0
Marking m p m' true = Newly m p m'
Marking m p m' false = (marked m p ≡ 1) × (m' ≡ m)
