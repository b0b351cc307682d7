-- Trees of which no more than n positions are filled: what a walk that looks at no more asks for. Assumes nothing.
use Rattle.std.specs.Prelude.{◌≡◌, List, ℕ, zero, suc, ◌+◌, ◌-◌, ◌*◌, ◌^◌, ◌≤◌, ◌<◌, length}
use Rattle.book.specs.Words.{Vol, vol}
use Rattle.book.specs.Pointers.{slot}
use Rattle.book.specs.Trees.{Root, tree, run, Below}
use Rattle.book.specs.Entries.{user_file, object_file, object, page_count, object_pages}
use Rattle.book.specs.Files.{file_at}
use Rattle.book.specs.Image.{pages}
use Rattle.tree.specs.Blocks.{pointer_in, share}

-- in each block under t, the slots that its positions do not need are zero
unfoldable pub Short : Vol → ℕ → ℕ → ℕ → Type 0
Short v zero t n = Unit {0}
Short v (suc l) t n = (k : ℕ) → k < 512 → (n ≤ k * 512 ^ l → slot v t k ≡ 0) × Short v l (slot v t k) (share l n k)

unfoldable pub ShortR : Vol → Root → ℕ → Type 0
ShortR v (tree l t) n = Short v l t n
ShortR v (run s m) n = Unit {0}

-- the trees of the volume: rules 2, 3, 5 and 7 say so
pub record Shorts (v : Vol) : Type 0 where
  pub users : ShortR v (user_file v) 8
  pub objects : ShortR v (object_file v) object_pages
  pub files : (e : ℕ) → e < 65536 → ShortR v (file_at v e) (page_count (object v e))

-- ---- the same of a block that was handed over as a part; its pointers are of level l

-- they name pages of the image
pub record PointersBelow (img block : List ℕ) (l : ℕ) : Type 0 where
  pub size : length block ≡ 1024
  pub below : (k : ℕ) → k < 512 → Below (vol img) (pages img) l (pointer_in block k)

-- those that n positions do not need are zero
pub record Pointers (img block : List ℕ) (l n : ℕ) : Type 0 where
  pub none : (k : ℕ) → k < 512 → n ≤ k * 512 ^ l → pointer_in block k ≡ 0
  pub short : (k : ℕ) → k < 512 → Short (vol img) l (pointer_in block k) (share l n k)

-- ---- rows: pointers whose pages follow each other

-- n pointers from pointer 1 on name the pages from s on
abbrev pub Follows : List ℕ → ℕ → ℕ → Type 0
Follows block n s = (k : ℕ) → k < n → pointer_in block (k + 1) ≡ s + k

-- so do all of the first n but pointer 0, and they are many
pub record Row (block : List ℕ) (n : ℕ) : Type 0 where
  pub long : 32 < n
  pub follows : Follows block (n - 1) (pointer_in block 1)
