-- Numbers 4, 5 and 8 of the calls that create a file: refused, or the user's lowest unused index. Assumes nothing.
use Rattle.std.specs.Prelude.{◌≡◌, List, ℕ, ◌<◌, Result, Ok, Err}
use Rattle.book.specs.Words.{Vol}
use Rattle.book.specs.Entries.{new_file}
use Rattle.book.specs.Calls.{HasUser, IsFile}
use Rattle.book.specs.declared.Refusal.{Refusal}
use Rattle.book.specs.declared.Refusal.TheVariants.{Size, Argument, Unsound, Missing, Taken, Kind, HasFiles, Full, Allowance, Unreserved, NoRun, Fill, Overdrawn, ShortList}

abbrev pub Stale : Vol → ℕ → List ℕ → List ℕ → Refusal → Type 0
Stale v u name type Size = ⊥
Stale v u name type Argument = ⊥
Stale v u name type (Unsound b) = ⊥
Stale v u name type Missing = HasUser v u → ⊥
Stale v u name type Taken = HasUser v u × ((f : ℕ) × IsFile v u name type f)
Stale v u name type Kind = ⊥
Stale v u name type HasFiles = ⊥
Stale v u name type Full = HasUser v u × ((f : ℕ) → IsFile v u name type f → ⊥) × (new_file v u < 256 → ⊥)
Stale v u name type Allowance = ⊥
Stale v u name type Unreserved = ⊥
Stale v u name type NoRun = ⊥
Stale v u name type Fill = ⊥
Stale v u name type Overdrawn = ⊥
Stale v u name type ShortList = ⊥

pub record New (v : Vol) (u : ℕ) (name type : List ℕ) (f : ℕ) : Type 0 where
  pub owner : HasUser v u
  pub single : (x : ℕ) → IsFile v u name type x → ⊥
  pub lowest : f ≡ new_file v u
  pub room : f < 256

abbrev pub Fresh : Vol → ℕ → List ℕ → List ℕ → Result ℕ Refusal → Type 0
Fresh v u name type (Ok f) = New v u name type f
Fresh v u name type (Err w) = Stale v u name type w
