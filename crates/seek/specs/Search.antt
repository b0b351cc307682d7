-- What a search by name answers, and which entries it looks for. Assumes nothing.
use Rattle.std.specs.Prelude.{List, ℕ, ◌<◌, Option, Some, None, IfSome}
use Rattle.book.specs.Words.{Words}
use Rattle.book.specs.Entries.{used}
use Rattle.book.specs.Names.{Named, Typed}

-- an index of which A holds; or that A holds of none
abbrev pub FoundBy : (ℕ → Type 0) → Option ℕ → Type 0
FoundBy A (Some i) = A i
FoundBy A None = (i : ℕ) → A i → ⊥

-- a used entry of this name and, if a type is asked for, this type: a user has none
abbrev pub Fits : List ℕ → Option (List ℕ) → Words → Type 0
Fits name type w = (0 < used w) × Named w name × IfSome type (λ t. Typed w t)
