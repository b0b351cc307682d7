-- The ten rules in two parts: the first seven, and those that count holders. Assumes nothing.
use Rattle.std.specs.Prelude.{◌≡◌, Bool, List, ℕ, Result, Ok, Err}
use Rattle.book.specs.Words.{Vol, vol}
use Rattle.book.specs.Entries.{user, object}
use Rattle.book.specs.Holders.{visits}
use Rattle.book.specs.Rows.{Rows, end, row, Lowest}
use Rattle.book.specs.Rules.{Rule1, Rule2, Rule3, Rule4Over, Rule5, Rule6, Rule7, Rule8, Rule9, Rule10, rules_of}
use Rattle.book.specs.Names.{stored}
use Rattle.book.specs.Image.{pages}
use Rattle.tree.specs.Ends.{Ends}
use Rattle.book.specs.declared.BrokenRule.{BrokenRule}

pub record Early (ten : Bool) (P : ℕ) (v : Vol) : Type 0 where
  pub r1 : Rule1 P v
  pub r2 : Rule2 P v
  pub r3 : Rule3 P v
  pub r4 : Rule4Over stored ten (user v)
  pub r5 : Rule5 P v
  pub r6 : Rule6 (user v) (object v)
  pub r7 : Rule7 P v

-- the lowest broken of all that are judged, or the first seven, with the object file's end
abbrev pub JudgedEarly : List ℕ → Bool → Result ℕ BrokenRule → Type 0
JudgedEarly img ten (Err b) = Lowest (rules_of ten (pages img) (vol img)) b.rule
JudgedEarly img ten (Ok n) = Early ten (pages img) (vol img) × Ends img n

-- rules 8 to 10
pub record Late (P : ℕ) (v : Vol) : Type 0 where
  pub r8 : Rule8 P v
  pub r9 : Rule9 P v
  pub r10 : Rule10 P v

unfoldable pub late_rules : ℕ → Vol → Rows
late_rules P v = row 8 (Rule8 P v) (row 9 (Rule9 P v) (row 10 (Rule10 P v) end))

abbrev pub JudgedLate : ℕ → Vol → Result ℕ BrokenRule → Type 0
JudgedLate P v (Ok n) = Late P v × (n ≡ visits P v)
JudgedLate P v (Err b) = Lowest (late_rules P v) b.rule
