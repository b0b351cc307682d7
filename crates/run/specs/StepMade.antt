-- What making a step promises: its result, its reply written, and whether it was done. Assumes nothing.
use Rattle.std.specs.Prelude.{◌≡◌, Bool, List, ℕ}
use Rattle.book.specs.Answers.{Numbers}
use Rattle.book.specs.Decides.{Decides}
use Rattle.book.specs.Run.{StepResult, put_reply}

-- of step i, which is s
pub record StepMade (img list s text words out : List ℕ) (i : ℕ) (img' list' out' : List ℕ) (b : Bool) : Type 0 where
  pub numbers : Numbers ℕ
  pub result : StepResult img list s text words numbers img' list'
  pub reply : out' ≡ put_reply out i numbers
  pub done : Decides b (numbers.number ≡ 0)
