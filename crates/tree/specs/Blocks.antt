-- A block of 512 pointers as a part of 1,024 words. Assumes nothing.
use Rattle.std.specs.Prelude.{◌≡◌, List, ℕ, ◌-◌, ◌*◌, ◌^◌, ◌≤◌, ◌<◌, min, get_or}
use Rattle.book.specs.Words.{two}

-- a word that is zero exactly where both are
pub record Either (a b r : ℕ) : Type 0 where
  pub none : a ≡ 0 → b ≡ 0 → r ≡ 0
  pub both : r ≡ 0 → (a ≡ 0) × (b ≡ 0)

-- pointer i
abbrev pub pointer_in : List ℕ → ℕ → ℕ
pointer_in block i = two (λ k. get_or block k 0) (2 * i)

-- pointers 0 to n - 1 are in least..P-1
abbrev pub Linked : ℕ → ℕ → List ℕ → ℕ → Type 0
Linked least P block n = (i : ℕ) → i < n → (least ≤ pointer_in block i) × (pointer_in block i < P)

-- 0 exactly where p is in least..P-1, else 1
pub record Wrong (p least P r : ℕ) : Type 0 where
  pub most : r ≤ 1
  pub none : least ≤ p → p < P → r ≡ 0
  pub right : r ≡ 0 → (least ≤ p) × (p < P)

-- pointers n to z - 1 are zero
abbrev pub Unlinked : List ℕ → ℕ → ℕ → Type 0
Unlinked block n z = (i : ℕ) → i < z → n ≤ i → pointer_in block i ≡ 0

-- of n positions under a block, those under its slot k, a pointer of level l
abbrev pub share : ℕ → ℕ → ℕ → ℕ
share l n k = min (n - k * 512 ^ l) (512 ^ l)

-- pointers from n on are zero
pub record End (block : List ℕ) (n : ℕ) : Type 0 where
  pub most : n ≤ 512
  pub none : Unlinked block n 512
