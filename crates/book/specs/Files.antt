-- Files: their shapes, their bytes, what they cost and what growing takes. Assumes nothing.
use Rattle.std.specs.Prelude.{◌≡◌, ◌⊎◌, ℕ, zero, suc, ◌+◌, ◌-◌, ◌*◌, ◌/◌, ◌%◌, ◌≤◌, ◌<◌, min}
use Rattle.sums.specs.Sum.{is}
use Rattle.sums.specs.Search.{pick}
use Rattle.book.specs.Words.{Words, Vol}
use Rattle.book.specs.Pointers.{flags, page}
use Rattle.book.specs.Trees.{Root, run, root_at, Below, Fill}
use Rattle.book.specs.Entries.{object, used, page_count, byte_count, file_pointer}

-- the pages of object entry e: none of an unused one
unfoldable pub file_at : Vol → ℕ → Root
file_at v e = pick (used (object v e)) (root_at (object v e) file_pointer (page_count (object v e))) (run 0 0)

-- ---- the shapes of a file of n pages with page t in its pointer

abbrev pub Empty : ℕ → ℕ → Type 0
Empty t n = (n ≡ 0) × (t ≡ 0)

abbrev pub Contiguous : ℕ → ℕ → ℕ → Type 0
Contiguous P t n = (0 < n) × (0 < t) × (t + n ≤ P)

abbrev pub Indexed : ℕ → Vol → ℕ → ℕ → Type 0
Indexed P v t n = (0 < n) × (n ≤ 512) × Fill v 1 t n × Below v P 1 t

abbrev pub Subindexed : ℕ → Vol → ℕ → ℕ → Type 0
Subindexed P v t n = (512 < n) × (n ≤ 262144) × Fill v 2 t n × Below v P 2 t

-- by the flags of its pointer
unfoldable pub Shape : ℕ → Vol → ℕ → ℕ → ℕ → Type 0
Shape P v zero t n = Empty t n ⊎ Contiguous P t n
Shape P v (suc zero) t n = Indexed P v t n
Shape P v (suc (suc zero)) t n = Subindexed P v t n
Shape P v (suc (suc (suc x))) t n = ⊥

-- bytes are 2,048 a page
abbrev pub page_bytes : ℕ
page_bytes = 2048

abbrev pub bytes_of : ℕ → ℕ
bytes_of n = page_bytes * n

abbrev pub BytesRight : Words → Type 0
BytesRight w = byte_count w ≡ bytes_of (page_count w)

unfoldable pub FileShape : ℕ → Vol → ℕ → Type 0
FileShape P v e = Shape P v (flags (object v e) file_pointer) (page (object v e) file_pointer) (page_count (object v e)) × BytesRight (object v e)

-- ---- costs

-- an indexed file of n pages: its data pages, its index blocks, its subindex block
unfoldable pub cost : ℕ → ℕ
cost n = n + (n + 511) / 512 + min 1 (n - 512)

-- what a file of n pages takes to grow by one: the data page, an index block, a subindex block
unfoldable pub need : ℕ → ℕ
need n = 1 + is (n % 512) 0 + is n 512

-- a file that is neither empty nor indexed
abbrev pub IsRun : ℕ → ℕ → Type 0
IsRun x n = (x ≡ 0) × (0 < n)
