-- The lent list on the way: its first k records tell what the first k numbers of the row say, and the others are as they were. Assumes nothing.
--     filled_next      one more is filled by storing record k
--     filled-length    the list stays as long as it was
use Rattle.std.specs.Prelude.{◌≡◌, refl, List, [], ◌∷◌, ◌++◌, map, ℕ, zero, suc, ◌≤◌, ◌<◌, length, take, drop, set, get_or}
use Rattle.std.proofs.Common.{ap, not-suc-le-zero, le_of_suc-le-suc}
use Rattle.book.specs.declared.Change.{Change}

module _ (f : ℕ → Change) where
  abbrev pub filled : List Change → List ℕ → ℕ → List Change
  filled xs row k = map f (take k row) ++ drop k xs

  pub filled_next : (xs : List Change) (row : List ℕ) (k : ℕ) → k < length xs → k < length row → set (filled xs row k) k (f (get_or row k 0)) ≡ filled xs row (suc k)
  filled_next [] row k h l = absurd (not-suc-le-zero h)
  filled_next (x ∷ xs) [] k h l = absurd (not-suc-le-zero l)
  filled_next (x ∷ xs) (y ∷ row) zero h l = refl
  filled_next (x ∷ xs) (y ∷ row) (suc k) h l = ap {B = List Change} (λ r. f y ∷ r) (filled_next xs row k (le_of_suc-le-suc h) (le_of_suc-le-suc l))

  pub filled-length : (xs : List Change) (row : List ℕ) (k : ℕ) → k ≤ length xs → k ≤ length row → length (filled xs row k) ≡ length xs
  filled-length xs row zero h l = refl
  filled-length [] row (suc k) h l = absurd (not-suc-le-zero h)
  filled-length (x ∷ xs) [] (suc k) h l = absurd (not-suc-le-zero l)
  filled-length (x ∷ xs) (y ∷ row) (suc k) h l = ap suc (filled-length xs row k (le_of_suc-le-suc h) (le_of_suc-le-suc l))
