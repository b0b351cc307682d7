-- What salvage promises of the image, its answer and the row of numbers. Assumes nothing.
use Rattle.std.specs.Prelude.{◌≡◌, ◌⊎◌, List, map, ℕ, Result, ◌*◌, ◌≤◌, length, take}
use Rattle.std.proofs.Common.{inl, inr, arith}
use Rattle.book.specs.Answers.{numbers}
use Rattle.book.specs.Calls.{salvage_call, repairs, repaired}
use Rattle.book.specs.Image.{pages}
use Rattle.book.specs.Outcome.{Outcome, RefusedAs, DoneAs}
use Rattle.book.specs.Rows.{Clear}
use Rattle.book.specs.Words.{vol}
use Rattle.book.specs.declared.Refusal.{Refusal}
use Rattle.laws.specs.Salvage.Call.{mends}
use Rattle.laws.specs.Salvage.Most.{changed-most}
use Rattle.salvage.specs.Row.{unpacked, row_size}

-- with done the row begins with the changes, as many as the value says
pub record Mends (img : List ℕ) (room : ℕ) (r : Result ℕ Refusal) (img' row' : List ℕ) : Type 0 where
  pub outcome : Outcome (salvage_call img room) img (numbers r) img'
  pub told : (numbers r).number ≡ 0 → map unpacked (take (numbers r).value row') ≡ repairs img
  pub size : length row' ≡ row_size

module _ (img : List ℕ) (room : ℕ) (a : Result ℕ Refusal) (img' row' : List ℕ) (m : Mends img room a img' row') where
  -- the value is the number of changes, no more than there is room for, and than the row has
  pub mends-counted : (numbers a).number ≡ 0 → (numbers a).value ≡ repaired img
  mends-counted z = (mends img room (numbers a) img' m.outcome z).value

  pub mends-fits : ((numbers a).value ≤ room) × ((numbers a).value ≤ row_size)
  unfolding Outcome salvage_call Clear
  mends-fits = go m.outcome
    where
      go : (RefusedAs (salvage_call img room) img (numbers a) img' ⊎ DoneAs (salvage_call img room) img (numbers a) img') → ((numbers a).value ≤ room) × ((numbers a).value ≤ row_size)
      go (inl x) = (omega (arith, x.value), omega (arith, x.value))
      go (inr x) =
          let d = mends img room (numbers a) img' m.outcome x.number in
          (omega (arith, d.value, x.clear.1.1.1.0), omega (arith, d.value, changed-most (pages img) (vol img) d.pointed (omega (arith, d.whole.least)) (1024 * pages img), d.whole.most))
