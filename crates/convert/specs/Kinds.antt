-- The two files of entries by one parameter: users' entries have no type, objects' entries have one. Assumes nothing.
use Rattle.std.specs.Prelude.{◌≡◌, Bool, true, false, ℕ, ◌≤◌, ◌<◌}
use Rattle.book.specs.Words.{Words, Vol}
use Rattle.book.specs.Trees.{Root}
use Rattle.book.specs.Entries.{entry, user_file, object_file, object, used}
use Rattle.book.specs.Convert.{Filled, refilled_user, refilled_object}

abbrev pub file_of : Bool → Vol → Root
file_of true v = object_file v
file_of false v = user_file v

abbrev pub entries_of : Bool → ℕ
entries_of true = 65536
entries_of false = 256

abbrev pub refilled_entry : Bool → ℕ → Words → Words
refilled_entry true c w = refilled_object c w
refilled_entry false c w = refilled_user c w

-- the entry w has exactly this fill
abbrev pub FilledEntry : Bool → ℕ → Words → Type 0
FilledEntry true c w = Filled c 16 w 1 × Filled c 4 w 9
FilledEntry false c w = Filled c 16 w 1

-- entry n has, if it is used; and so the first n
abbrev pub FilledAt : Bool → ℕ → Vol → ℕ → Type 0
FilledAt typed c v n = 0 < used (entry v (file_of typed v) n) → FilledEntry typed c (entry v (file_of typed v) n)

abbrev pub FilledTo : Bool → ℕ → Vol → ℕ → Type 0
FilledTo typed c v n = (m : ℕ) → m < n → FilledAt typed c v m

-- no object entry is used from n on
pub record PastEnd (v : Vol) (n : ℕ) : Type 0 where
  pub most : n ≤ 65536
  pub none : (e : ℕ) → n ≤ e → e < 65536 → used (object v e) ≡ 0
