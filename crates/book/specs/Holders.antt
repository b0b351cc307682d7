-- Who holds a page. Assumes nothing.
use Rattle.std.specs.Prelude.{◌≡◌, ◌⊎◌, ℕ, zero, suc, ◌+◌, ◌<◌}
use Rattle.sums.specs.Sum.{sum, is}
use Rattle.book.specs.Words.{Vol}
use Rattle.book.specs.Trees.{Root, weigh_r, page_at, index_at, subindex_of}
use Rattle.book.specs.Bits.{bit_file}
use Rattle.book.specs.Entries.{user_file, object_file, file_entry}
use Rattle.book.specs.Files.{file_at}
use Rattle.book.specs.declared.Role.{Role}
use Rattle.book.specs.declared.Role.TheVariants.{Subindex, Index, Data}
use Rattle.book.specs.declared.Holder.{Holder}
use Rattle.book.specs.declared.Holder.TheVariants.{Free, Master, BitFile, UserIndex, UserPage, ObjectSubindex, ObjectIndex, ObjectPage, File}

-- ---- counted: every holder weighed by the page it has

-- the files of user u
unfoldable pub mine : Vol → ℕ → (ℕ → ℕ) → ℕ
mine v u g = sum 256 (λ f. weigh_r v (file_at v (file_entry u f)) g)

-- the bit file, the user file and the object file
unfoldable pub system : ℕ → Vol → (ℕ → ℕ) → ℕ
system P v g = weigh_r v (bit_file P v) g + weigh_r v (user_file v) g + weigh_r v (object_file v) g

-- these and all files
unfoldable pub all : ℕ → Vol → (ℕ → ℕ) → ℕ
all P v g = system P v g + sum 256 (λ u. mine v u g)

-- 1 at page p, and 0 at any other and at 0
unfoldable pub hit : ℕ → ℕ → ℕ
hit p zero = 0
hit p (suc x) = is (suc x) p

-- 1 at any page, and 0 at 0
unfoldable pub some : ℕ → ℕ
some zero = 0
some (suc x) = 1

-- how many hold page p: the master, which is page 0, and the others
unfoldable pub holders : ℕ → Vol → ℕ → ℕ
holders P v p = is p 0 + all P v (hit p)

-- system pages: all held pages that no file holds
unfoldable pub system_pages : ℕ → Vol → ℕ
system_pages P v = 1 + system P v some

-- the pages visited: each held page once
unfoldable pub visits : ℕ → Vol → ℕ
visits P v = sum P (λ p. some (holders P v p))

-- ---- told apart: the page that each holder has, 0 where it has none

abbrev pub role_page : Vol → Root → Role → ℕ
role_page v r Subindex = subindex_of r
role_page v r (Index n) = index_at v r n
role_page v r (Data n) = page_at v r n

abbrev pub held_page : ℕ → Vol → Holder → ℕ
held_page P v Free = 0
held_page P v Master = 0
held_page P v (BitFile n) = page_at v (bit_file P v) n
held_page P v UserIndex = index_at v (user_file v) 0
held_page P v (UserPage n) = page_at v (user_file v) n
held_page P v ObjectSubindex = subindex_of (object_file v)
held_page P v (ObjectIndex n) = index_at v (object_file v) n
held_page P v (ObjectPage n) = page_at v (object_file v) n
held_page P v (File h) = role_page v (file_at v (file_entry h.user h.file)) h.role

abbrev pub Exists : Holder → Type 0
Exists Free = ⊥
Exists Master = Unit {0}
Exists (BitFile n) = Unit {0}
Exists UserIndex = Unit {0}
Exists (UserPage n) = Unit {0}
Exists ObjectSubindex = Unit {0}
Exists (ObjectIndex n) = Unit {0}
Exists (ObjectPage n) = Unit {0}
Exists (File h) = (h.user < 256) × (h.file < 256)

-- h holds page p: the master page 0 alone, and any other holder a page that is not 0
unfoldable pub Holds : ℕ → Vol → ℕ → Holder → Type 0
Holds P v zero h = h ≡ Master
Holds P v (suc p) h = Exists h × (held_page P v h ≡ suc p)

-- what who-holds tells of page p: that it is free, or its holder
unfoldable pub Told : ℕ → Vol → ℕ → Holder → Type 0
Told P v p h = ((holders P v p ≡ 0) × (h ≡ Free)) ⊎ Holds P v p h
