-- What the tests of files remember: full index blocks, and subindex blocks with a right tree under them; marks, one bit a page. Assumes nothing.
use Rattle.std.specs.Prelude.{◌≡◌, Bool, true, List, ℕ, ◌*◌, ◌≤◌, length}
use Rattle.book.specs.Decides.{Decides}
use Rattle.book.specs.Files.{Subindexed}
use Rattle.book.specs.Image.{pages, Whole}
use Rattle.book.specs.Words.{vol}
use Rattle.bits.specs.Marks.{marked}
use Rattle.shape.specs.Shapes.{Filled}

-- marks for all pages, and every page that is marked is a full index block
pub record Known (img : List ℕ) (seen : List ℕ) : Type 0 where
  pub room : pages img ≤ 16 * length seen
  pub full : (b : ℕ) → marked seen b ≡ 1 → Filled (pages img) (vol img) 1 b 512

-- page t is the subindex block of some right file
pub record Subindex (img : List ℕ) (t : ℕ) : Type 0 where
  pub count : ℕ
  pub right : Subindexed (pages img) (vol img) t count

-- marks for all pages, and every page that is marked is such a subindex block
pub record Rooted (img : List ℕ) (trees : List ℕ) : Type 0 where
  pub room : pages img ≤ 16 * length trees
  pub root : (t : ℕ) → marked trees t ≡ 1 → Subindex img t

-- both memories are right
pub record Recalled (img : List ℕ) (seen trees : List ℕ) : Type 0 where
  pub known : Known img seen
  pub rooted : Rooted img trees

-- ---- tests with a memory of which M says that it is right

-- what they ask: an image of `total` whole pages, and a memory that is right
pub record Testing (img : List ℕ) (total : ℕ) (M : Type 0) : Type 0 where
  pub whole : Whole img
  pub count : total ≡ pages img
  pub memory : M

-- what they answer: r decides A, and where it is yes the memory afterwards is right
pub record Tested (A M : Type 0) (r : Bool) : Type 0 where
  pub decides : Decides r A
  pub kept : r ≡ true → M
