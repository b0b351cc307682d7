-- What the search for the holders of page p asks for and keeps. Assumes nothing.
use Rattle.std.specs.Prelude.{◌≡◌, List, ℕ, ◌*◌, ◌≤◌, ◌<◌, length}
use Rattle.book.specs.Words.{Vol, vol}
use Rattle.book.specs.Pointers.{slot}
use Rattle.book.specs.Image.{pages, most_pages}
use Rattle.bits.specs.Marks.{marked}

-- no slot of the block in page b has page p
abbrev pub Vain : Vol → ℕ → ℕ → Type 0
Vain v p b = (k : ℕ) → k < 512 → slot v b k ≡ p → ⊥

-- nor has one of the blocks in its slots
abbrev pub VainUnder : Vol → ℕ → ℕ → Type 0
VainUnder v p t = (k : ℕ) → k < 512 → Vain v p (slot v t k)

-- marks for P pages, and A holds of the blocks that are marked
pub record Passed (P : ℕ) (A : ℕ → Type 0) (m : List ℕ) : Type 0 where
  pub room : P ≤ 16 * length m
  pub all : (b : ℕ) → marked m b ≡ 1 → A b

-- page p is sought; blocks in vain, and subindex blocks in vain, are marked
pub record Search (img : List ℕ) (p : ℕ) (seen tops : List ℕ) : Type 0 where
  pub few : pages img ≤ most_pages
  pub page : 0 < p
  pub blocks : Passed (pages img) (Vain (vol img) p) seen
  pub trees : Passed (pages img) (VainUnder (vol img) p) tops
