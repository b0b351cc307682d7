-- What the tests of a file's shape decide, block by block. Assumes nothing.
use Rattle.std.specs.Prelude.{List, ℕ, ◌≤◌, ◌<◌}
use Rattle.book.specs.Words.{Words, Vol}
use Rattle.book.specs.Entries.{object, used, page_count, file_pointer}
use Rattle.book.specs.Files.{Shape, FileShape, BytesRight}
use Rattle.book.specs.Pointers.{flags, page}
use Rattle.book.specs.Trees.{Fill, Below}
use Rattle.tree.specs.Blocks.{pointer_in, share}

-- the tree of level l at t has positions 0 to n - 1 and no others, and all its pages are below P
abbrev pub Filled : ℕ → Vol → ℕ → ℕ → ℕ → Type 0
Filled P v l t n = Fill v l t n × Below v P l t

-- ---- a subindex block as a part of 1,024 words

-- pointers 0 to m - 1 of a subindex block of n positions lead to index blocks of their shares
abbrev pub Indexes : ℕ → Vol → List ℕ → ℕ → ℕ → Type 0
Indexes P v block n m = (k : ℕ) → k < m → Filled P v 1 (pointer_in block k) (share 1 n k)

-- ---- a file by the words of its entry

abbrev pub Shaped : ℕ → Vol → Words → Type 0
Shaped P v w = Shape P v (flags w file_pointer) (page w file_pointer) (page_count w) × BytesRight w

-- the entry is unused, or its file is right
abbrev pub EntryRight : ℕ → Vol → Words → Type 0
EntryRight P v w = 0 < used w → Shaped P v w

-- the files of entries a to z - 1 are right
abbrev pub FilesRight : ℕ → Vol → ℕ → ℕ → Type 0
FilesRight P v a z = (e : ℕ) → e < z → a ≤ e → 0 < used (object v e) → FileShape P v e
