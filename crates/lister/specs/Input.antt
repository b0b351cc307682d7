-- What the program does with the bytes that it read. Assumes nothing.
use Rattle.std.specs.Prelude.{◌≡◌, List, ℕ, ◌*◌, ◌≤◌, length, take}
use Rattle.book.specs.Names.{words_of}
use Rattle.book.specs.Listing.{Listed}
use Rattle.page.specs.Parts.{Begins}

-- the words of the bytes s, high byte first
pub record WordsOf (s img : List ℕ) : Type 0 where
  pub size : 2 * length img ≡ length s
  pub words : Begins (length img) img (words_of s)

-- the first n bytes of the buffer are the whole text for the image of the bytes s
abbrev pub Answered : List ℕ → List ℕ → ℕ → Type 0
Answered s out n = (n ≤ 65536) × ((img : List ℕ) × WordsOf s img × Listed img (take n out))
