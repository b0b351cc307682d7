-- What refusal 3 tells. That it is one thing is proved in proofs/Broken.antt. Assumes nothing.
use Rattle.std.specs.Prelude.{◌≡◌, Bool, true, ℕ}
use Rattle.book.specs.Words.{Vol}
use Rattle.book.specs.Rows.{Lowest}
use Rattle.book.specs.Rules.{rules_of}
use Rattle.book.specs.declared.Holder.{Holder}
use Rattle.book.specs.declared.Holder.TheVariants.{Free}
use Rattle.book.specs.declared.Break.{Break}
use Rattle.book.specs.Spots.{First}
use Rattle.book.specs.Places.{spots_of}
use Rattle.book.specs.Pair.{FirstTwo}

-- with rule 8 the first two holders of page p, and free ones with any other
unfoldable pub PairFor : ℕ → Vol → ℕ → ℕ → Holder → Holder → Type 0
PairFor P v r p g h = (r ≡ 8 → FirstTwo P v p g h) × ((r ≡ 8 → ⊥) → (g ≡ Free) × (h ≡ Free))

-- of the rules that are judged the lowest broken one, the first place that breaks it, and its pair
pub record BrokenBy (ten : Bool) (P : ℕ) (v : Vol) (b : Break) : Type 0 where
  pub rule : Lowest (rules_of ten P v) b.rule
  pub place : First (spots_of ten P v b.rule) b.place
  pub pair : PairFor P v b.rule b.place.page b.first b.second

abbrev pub BrokenAt : ℕ → Vol → Break → Type 0
BrokenAt = BrokenBy true
