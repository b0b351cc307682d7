-- A tree of pages over its level, and a run of pages: what a pointer with flags stands for. Assumes nothing.
use Rattle.std.specs.Prelude.{◌≡◌, ℕ, zero, suc, ◌+◌, ◌-◌, ◌*◌, ◌/◌, ◌%◌, ◌^◌, ◌<◌, min}
use Rattle.sums.specs.Sum.{sum}
use Rattle.book.specs.Words.{Words, Vol}
use Rattle.book.specs.Pointers.{flags, page, slot}

-- A page of level 0 is itself; one of level l + 1 is a block of 512 pointers of level l. No pointer has a level above 2.

-- all pages of the tree at t, each weighed by g (which is 0 at 0, where there is no page)
unfoldable pub weigh : Vol → ℕ → ℕ → (ℕ → ℕ) → ℕ
weigh v zero t g = g t
weigh v (suc l) t g = g t + sum 512 (λ k. weigh v l (slot v t k) g)

-- its blocks alone
unfoldable pub blocks : Vol → ℕ → ℕ → (ℕ → ℕ) → ℕ
blocks v zero t g = 0
blocks v (suc l) t g = g t + sum 512 (λ k. blocks v l (slot v t k) g)

-- position n of a block of level l + 1 lies under this slot, at this position there; so position n of a file is in index block n / 512, slot n % 512
abbrev pub slot_in : ℕ → ℕ → ℕ
slot_in l n = n / 512 ^ l

abbrev pub rest_in : ℕ → ℕ → ℕ
rest_in l n = n % 512 ^ l

-- its page at position n, at the bottom
unfoldable pub leaf : Vol → ℕ → ℕ → ℕ → ℕ
leaf v zero t n = t
leaf v (suc l) t n = leaf v l (slot v t (slot_in l n)) (rest_in l n)

-- every page of it is below P
unfoldable pub Below : Vol → ℕ → ℕ → ℕ → Type 0
Below v P zero t = t < P
Below v P (suc l) t = (t < P) × ((k : ℕ) → k < 512 → Below v P l (slot v t k))

-- it has positions 0 to n - 1 and no others, with exactly the blocks needed
unfoldable pub Fill : Vol → ℕ → ℕ → ℕ → Type 0
Fill v zero t n = (0 < n → 0 < t) × (n ≡ 0 → t ≡ 0)
Fill v (suc l) t n = (0 < n → 0 < t) × (n ≡ 0 → t ≡ 0) × ((k : ℕ) → k < 512 → Fill v l (slot v t k) (min (n - k * 512 ^ l) (512 ^ l)))

-- ---- by the flags of a pointer

pub data Root : Type 0 where
  tree : ℕ → ℕ → Root
  run : ℕ → ℕ → Root

-- no flags: a run of n pages from t on; I: one level; S: two; both: nothing
unfoldable pub root_by : ℕ → ℕ → ℕ → Root
root_by zero t n = run t n
root_by (suc zero) t n = tree 1 t
root_by (suc (suc zero)) t n = tree 2 t
root_by (suc (suc (suc x))) t n = run 0 0

unfoldable pub root_at : Words → ℕ → ℕ → Root
root_at w k n = root_by (flags w k) (page w k) n

unfoldable pub weigh_r : Vol → Root → (ℕ → ℕ) → ℕ
weigh_r v (tree l t) g = weigh v l t g
weigh_r v (run s n) g = sum n (λ i. g (s + i))

unfoldable pub blocks_r : Vol → Root → (ℕ → ℕ) → ℕ
blocks_r v (tree l t) g = blocks v l t g
blocks_r v (run s n) g = 0

-- x for n < m, and 0 else
unfoldable pub upto : ℕ → ℕ → ℕ → ℕ
upto n m x = (1 - (suc n - m)) * x

-- the page at position n, 0 where there is none
unfoldable pub page_at : Vol → Root → ℕ → ℕ
page_at v (tree l t) n = upto n (512 ^ l) (leaf v l t n)
page_at v (run s m) n = upto n m (s + n)

-- index block n, 0 where there is none
unfoldable pub index_at : Vol → Root → ℕ → ℕ
index_at v (tree zero t) n = 0
index_at v (tree (suc l) t) n = upto n (512 ^ l) (leaf v l t n)
index_at v (run s m) n = 0

-- the subindex block, 0 where there is none
unfoldable pub subindex_of : Root → ℕ
subindex_of (tree zero t) = 0
subindex_of (tree (suc zero) t) = 0
subindex_of (tree (suc (suc l)) t) = t
subindex_of (run s m) = 0
