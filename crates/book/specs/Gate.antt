-- What check says, and numbers 1 to 3, which every call but format asks alike. Assumes nothing.
use Rattle.std.specs.Prelude.{◌≡◌, Bool, true, List, ℕ, Result, Ok, Err}
use Rattle.book.specs.Words.{Vol, vol}
use Rattle.book.specs.Holders.{visits}
use Rattle.book.specs.Rows.{Lowest}
use Rattle.book.specs.Rules.{SoundOver, rules_of}
use Rattle.book.specs.Broken.{BrokenAt}
use Rattle.book.specs.Names.{stored}
use Rattle.book.specs.Image.{pages, Whole, Ready}
use Rattle.book.specs.declared.BrokenRule.{BrokenRule}
use Rattle.book.specs.declared.Refusal.{Refusal}
use Rattle.book.specs.declared.Refusal.TheVariants.{Size, Argument, Unsound, Missing, Taken, Kind, HasFiles, Full, Allowance, Unreserved, NoRun, Fill, Overdrawn, ShortList}

-- sound by the rules judged, with the pages visited; or the lowest broken one of them
abbrev pub Judged : Bool → ℕ → Vol → Result ℕ BrokenRule → Type 0
Judged ten P v (Ok n) = SoundOver stored ten P v × (n ≡ visits P v)
Judged ten P v (Err b) = Lowest (rules_of ten P v) b.rule

-- the gate is shut by 1, 2 or 3, and by no other number; with 3 what is broken, and where
abbrev pub Shuts : List ℕ → Type 0 → Refusal → Type 0
Shuts img args Size = Whole img → ⊥
Shuts img args Argument = Whole img × (args → ⊥)
Shuts img args (Unsound b) = Whole img × args × BrokenAt (pages img) (vol img) b
Shuts img args Missing = ⊥
Shuts img args Taken = ⊥
Shuts img args Kind = ⊥
Shuts img args HasFiles = ⊥
Shuts img args Full = ⊥
Shuts img args Allowance = ⊥
Shuts img args Unreserved = ⊥
Shuts img args NoRun = ⊥
Shuts img args Fill = ⊥
Shuts img args Overdrawn = ⊥
Shuts img args ShortList = ⊥

-- open: the arguments are right, as `ok` tells, and the image is whole and sound
abbrev pub Gated : List ℕ → Bool → Result ℕ Refusal → Type 0
Gated img ok (Err w) = Shuts img (ok ≡ true) w
Gated img ok (Ok n) = Ready img × (ok ≡ true) × (n ≡ visits (pages img) (vol img))
