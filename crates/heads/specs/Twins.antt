-- Entries of one file that have the same name, and the same type if they have one. Assumes nothing.
use Rattle.std.specs.Prelude.{◌≡◌, List, ℕ, ◌+◌, ◌*◌, ◌/◌, ◌%◌, ◌≤◌, ◌<◌}
use Rattle.std.proofs.Common.{arith}
use Rattle.book.specs.Words.{Words, vol}
use Rattle.book.specs.Trees.{Root, page_at}
use Rattle.book.specs.Entries.{Table, used}
use Rattle.book.specs.Names.{SameName, end_of, stored}
use Rattle.tree.specs.Reach.{Reach}
use Rattle.heads.specs.Span.{Span}

-- the bytes of a type: 4 for files, and 0 for users, who have none
pub record TypeBytes (n : ℕ) : Type 0 where
  pub even : n % 2 ≡ 0
  pub most : n ≤ 4

pub no-type : TypeBytes 0
no-type = record { even = omega arith; most = omega arith }

pub file_type : TypeBytes 4
file_type = record { even = omega arith; most = omega arith }

-- the name of an entry ends at byte l, and its type in n bytes at byte m
pub record EndsAt (w : Words) (n l m : ℕ) : Type 0 where
  pub name : l ≡ end_of 16 w 1
  pub type : m ≡ end_of n w 9

-- the same name and, in n bytes, the same type
abbrev pub SameTitle : ℕ → Words → Words → Type 0
SameTitle n w x = SameName w x × (stored n w 9 ≡ stored n x 9)

-- x and y are used, and have the same name and type
pub record Twins (E : Table) (n x y : ℕ) : Type 0 where
  pub first : 0 < used (E x)
  pub second : 0 < used (E y)
  pub title : SameTitle n (E x) (E y)

-- none from `base` on before y is a twin of y
abbrev pub Fresh : Table → ℕ → ℕ → ℕ → Type 0
Fresh E n base y = Span (λ x. Twins E n x y → ⊥) base y

-- no two from `base` on below z are twins
abbrev pub Apart : Table → ℕ → ℕ → ℕ → Type 0
Apart E n base z = Span (Fresh E n base) base z

-- no two files of user u have the same name and type
abbrev pub FilesApart : Table → ℕ → Type 0
FilesApart O u = Apart O 4 (256 * u) (256 * u + 256)

-- entry y of the file at r lies on page q, which is there
pub record On (img : List ℕ) (r : Root) (q y : ℕ) : Type 0 where
  pub reach : Reach img r
  pub at : q ≡ page_at (vol img) r (y / 32)
  pub there : 0 < q
