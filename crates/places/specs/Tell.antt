-- What refusal 3 is told from: a broken image, and the place that its rule's finder found. Assumes nothing.
use Rattle.std.specs.Prelude.{Option, None, Some, Bool, List, ℕ}
use Rattle.book.specs.Words.{vol}
use Rattle.book.specs.Image.{pages, Whole}
use Rattle.book.specs.Rows.{Lowest}
use Rattle.book.specs.Rules.{rules_of}
use Rattle.book.specs.Spots.{at}
use Rattle.book.specs.declared.Place.{Place}
use Rattle.book.specs.declared.Break.{Break}
use Rattle.book.specs.declared.Holder.TheVariants.{Free}

-- an image of whole pages whose lowest broken rule, of those judged, is r
pub record Breaks (img : List ℕ) (ten : Bool) (r : ℕ) : Type 0 where
  pub whole : Whole img
  pub lowest : Lowest (rules_of ten (pages img) (vol img)) r

-- the place found; a broken rule has one
abbrev pub place_of : Option Place → Place
place_of None = at 0 0
place_of (Some q) = q

-- with any rule but 8 nobody is told
abbrev pub plainly : ℕ → Option Place → Break
plainly r f = record { rule = r; place = place_of f; first = Free; second = Free }
