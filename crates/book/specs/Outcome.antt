-- A call, and what it may come back with. Assumes nothing.
use Rattle.std.specs.Prelude.{◌≡◌, Bool, true, ◌⊎◌, List, ℕ, length}
use Rattle.book.specs.Words.{Vol, vol}
use Rattle.book.specs.Rules.{Sound}
use Rattle.book.specs.Broken.{BrokenBy}
use Rattle.book.specs.declared.Break.{Break}
use Rattle.book.specs.Rows.{Rows, row, Lowest, Clear}
use Rattle.book.specs.Image.{pages, Whole}
use Rattle.book.specs.Answers.{Numbers, unbroken}

-- a call on an image: what each number asks for, which rules 3 judges, the value with a refusal; and with done the values it gives and the volume it leaves
pub record Call (A : Type 0) : Type 1 where
  pub table : Rows
  pub ten : Bool
  pub none : A
  pub gives : A → Type 0
  pub after : Vol

-- numbers 1 to 3 are asked alike by every call but format; the rest are the call's own
unfoldable pub judged : List ℕ → Type 0 → Rows → Rows
judged img args rest = row 1 (Whole img) (row 2 args (row 3 (Sound (pages img) (vol img)) rest))

unfoldable pub asking : {A : Type 0} → List ℕ → Type 0 → Rows → A → (A → Type 0) → Vol → Call A
asking img args rest none gives after =
    record { table = judged img args rest; ten = true; none = none; gives = gives; after = after }

-- a call whose value is a number
unfoldable pub call : List ℕ → Type 0 → Rows → ℕ → Vol → Call ℕ
call img args rest value after = asking img args rest 0 (λ x. x ≡ value) after

-- with 3 what is broken, of the rules judged, and zeros with any other
unfoldable pub BrokenFor : Bool → List ℕ → ℕ → Break → Type 0
BrokenFor ten img n b = (n ≡ 3 → BrokenBy ten (pages img) (vol img) b) × ((n ≡ 3 → ⊥) → b ≡ unbroken)

-- refused: the lowest number that applies, zeros for all others, and the image as it was
pub record RefusedAs {A : Type 0} (C : Call A) (img : List ℕ) (r : Numbers A) (img' : List ℕ) : Type 0 where
  pub number : Lowest C.table r.number
  pub value : r.value ≡ C.none
  pub broken : BrokenFor C.ten img r.number r.broken
  pub image : img' ≡ img

-- done: no number applies
pub record DoneAs {A : Type 0} (C : Call A) (img : List ℕ) (r : Numbers A) (img' : List ℕ) : Type 0 where
  pub number : r.number ≡ 0
  pub clear : Clear C.table
  pub value : C.gives r.value
  pub broken : r.broken ≡ unbroken
  pub image : vol img' ≡ C.after
  pub size : length img' ≡ length img

unfoldable pub Outcome : {A : Type 0} → Call A → List ℕ → Numbers A → List ℕ → Type 0
Outcome C img r img' = RefusedAs C img r img' ⊎ DoneAs C img r img'

-- the value alone, where a call gives no number back
abbrev pub Gives : {A : Type 0} → Call A → List ℕ → A → Type 0
Gives {A} C img x = (r : Numbers A) × (r.value ≡ x) × Outcome C img r img

-- done gives one value
unfoldable pub Single : {A : Type 0} → Call A → Type 0
Single {A} C = Clear C.table → (x y : A) → C.gives x → C.gives y → x ≡ y
