-- What a walk is given and how it ends, over the pages that a weigher W weighs: W (hit p) is how often page p is among them, W some how many they are.
-- Assumes nothing.
use Rattle.std.specs.Prelude.{◌≡◌, Bool, true, false, List, ℕ, ◌+◌, ◌*◌, ◌/◌, ◌≤◌, ◌<◌, length, Option, Some, None}
use Rattle.sums.specs.Sum.{sum, is}
use Rattle.book.specs.Holders.{hit, some}
use Rattle.book.specs.Image.{pages, most_pages}
use Rattle.bits.specs.Marks.{marked}

abbrev pub Weigher : Type 0
Weigher = (ℕ → ℕ) → ℕ

-- the marks have room for each page, the master page is marked, and at least as many are marked as were visited
pub record Walking (img m : List ℕ) (visited : ℕ) : Type 0 where
  pub room : pages img ≤ 16 * length m
  pub few : pages img ≤ most_pages
  pub some : 0 < pages img
  pub master : marked m 0 ≡ 1
  pub counted : visited ≤ sum (pages img) (marked m)

-- none of them was marked or is there twice: now all are marked, and counted
pub record WalkedOn (P : ℕ) (m : List ℕ) (v : ℕ) (W : Weigher) (m' : List ℕ) (x : ℕ) : Type 0 where
  pub more : (p : ℕ) → p < P → marked m' p ≡ marked m p + W (hit p)
  pub count : x ≡ v + W some
  pub kept : length m' ≡ length m

-- that, or one of them was marked already or is there twice
abbrev pub Walked : ℕ → List ℕ → ℕ → Weigher → List ℕ → Option ℕ → Type 0
Walked P m v W m' (Some x) = WalkedOn P m v W m' x
Walked P m v W m' None = (p : ℕ) × (p < P) × (2 ≤ marked m p + W (hit p))

-- what filling word w of the marks answers: that its sixteen pages were not marked, and are now; or that nothing is done
abbrev pub Filling : List ℕ → ℕ → List ℕ → Bool → Type 0
Filling m w m' true = ((q : ℕ) → marked m' q ≡ marked m q + is w (q / 16)) × (length m' ≡ length m)
Filling m w m' false = m' ≡ m
