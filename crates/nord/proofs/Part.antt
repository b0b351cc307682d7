-- A call that gives a value and no number: the read. Assumes nothing.
use mathlib.Core.Path.{◌≡◌, refl, sym}
use mathlib.Core.List.{List}
use Prim.Native.Nat.{ℕ}
use Rattle.std.specs.Prelude.{Result, Err}
use Rattle.book.specs.Words.{Vol, vol}
use Rattle.book.specs.Rows.{Rows, Lowest, Clear}
use Rattle.book.specs.Answers.{number_of, done_with, refused_with}
use Rattle.book.specs.Outcome.{asking, Gives}
use Rattle.book.specs.Enter.{Fit, Entered}
use Rattle.book.specs.Return.{Own, shut, refused, finished}
use Rattle.book.specs.declared.Refusal.{Refusal}

module _ {A : Type 0} (img : List ℕ) (args : Type 0) (rest : Rows) (none : A) (gives : A → Type 0) (after : Vol) where
  pub gives-shut : {g : Result ℕ Refusal} {w : Refusal} → Entered img args g → g ≡ Err w → (x : A) → x ≡ none → Gives (asking img args rest none gives after) img x
  gives-shut {g} {w} h e x q = (refused_with none w, sym q, shut img args rest none gives after h e)

  pub gives-refused : Fit img args → (w : Refusal) → Own w → Lowest rest (number_of w) → (x : A) → x ≡ none → Gives (asking img args rest none gives after) img x
  gives-refused f w o l x q = (refused_with none w, sym q, refused img args rest none gives after f w o l)

  pub gives-done : Fit img args → Clear rest → (x : A) → gives x → vol img ≡ after → Gives (asking img args rest none gives after) img x
  gives-done f c x g e = (done_with x, refl, finished img args rest none gives after f c x g img e refl)
