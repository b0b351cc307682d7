-- What freeing pages asks for. Assumes nothing.
use Rattle.std.specs.Prelude.{◌≡◌, List, ℕ, ◌+◌, ◌<◌}
use Rattle.book.specs.Words.{Vol, vol}
use Rattle.book.specs.Pointers.{page, bit_pointer}
use Rattle.book.specs.Trees.{Below, blocks, root_by, blocks_r}
use Rattle.book.specs.Bits.{bit_pages}
use Rattle.book.specs.Image.{pages, Whole}
use Rattle.book.specs.Rules.{Rule1}
use Rattle.laws.specs.Salvage.Apart.{hits}
use Rattle.laws.specs.Tree.Weigh.{BelowR}

-- 1 at each page of the bit file, which begins at b
abbrev pub bit_hits : ℕ → ℕ → ℕ → ℕ
bit_hits P b = hits (λ i. b + i) (bit_pages P)

-- pages of the image can be freed: b is where its bit file begins
pub record Freeing (img : List ℕ) (b : ℕ) : Type 0 where
  pub whole : Whole img
  pub rule : Rule1 (pages img) (vol img)
  pub at : page (vol img 0) bit_pointer ≡ b

-- the tree of level l at t: its pages are below P, and no page of the bit file is one of its blocks
pub record Apart (P : ℕ) (v : Vol) (b l t : ℕ) : Type 0 where
  pub below : Below v P l t
  pub apart : blocks v l t (bit_hits P b) ≡ 0

-- the same of a root, by the flags x of its pointer, with page t and n pages; a run has pages
pub record RootApart (P : ℕ) (v : Vol) (b x t n : ℕ) : Type 0 where
  pub known : x < 3
  pub below : BelowR v P (root_by x t n)
  pub apart : blocks_r v (root_by x t n) (bit_hits P b) ≡ 0
  pub start : x ≡ 0 → 0 < n → 0 < t
