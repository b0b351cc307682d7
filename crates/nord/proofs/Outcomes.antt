-- How a call comes back, by what its answer shows: the gate's refusal handed on, one of its own, or done. Assumes nothing.
use mathlib.Core.Path.{◌≡◌, refl, sym, subst}
use mathlib.Core.List.{List}
use mathlib.Core.Logic.{inl, inr}
use Prim.Native.Nat.{ℕ, ◌<◌}
use native.Mathlib.Omega.{arith}
use Rattle.std.specs.Prelude.{Result, Ok, Err}
use Rattle.std.specs.Result.{IsErr}
use Rattle.book.specs.Words.{Vol}
use Rattle.book.specs.Rows.{Rows, Lowest}
use Rattle.book.specs.Answers.{unbroken, numbers, holding}
use Rattle.book.specs.Outcome.{asking, judged, Outcome, BrokenFor}
use Rattle.book.specs.Enter.{Fit, Entered, fit}
use Rattle.book.specs.Return.{shut, finished}
use Rattle.book.specs.declared.Holder.{Holder}
use Rattle.book.specs.declared.Holder.TheVariants.{Free}
use Rattle.book.specs.declared.Refusal.{Refusal}

module _ {A : Type 0} (img : List ℕ) (args : Type 0) (rest : Rows) (none : A) (gives : A → Type 0) (after : Vol) where
  -- one of the call's own rows fails, by its number
  pub own_row : (n : ℕ) → Fit img args → 3 < n → Lowest rest n → Outcome (asking img args rest none gives after) img (record { number = n; value = none; broken = unbroken }) img
  unfolding asking judged Lowest Outcome BrokenFor
  own_row n f o l = inl record {
    number = inr (f.ready.whole, inr (f.right, inr (f.ready.sound, l)));
    value = refl;
    broken = (λ e. let z : ⊥ = omega (arith, e, o) in absurd z, λ e. refl);
    image = refl;
  }

-- the gate's refusal is the answer
module _ (img : List ℕ) (args : Type 0) (rest : Rows) (gives : ℕ → Type 0) (after : Vol) where
  pub handed_on : (r : Result ℕ Refusal) → Entered img args r → IsErr r → Outcome (asking img args rest 0 gives after) img (numbers r) img
  handed_on (Err w) h e = shut img args rest 0 gives after h refl
  handed_on (Ok n) h e = let z : ◌≡◌ {A = ℕ} 0 1 = cc in absurd (omega arith)

  -- with arguments that are never right
  pub never_open : (r : Result ℕ Refusal) → Entered img args r → (args → ⊥) → Outcome (asking img args rest 0 gives after) img (numbers r) img
  never_open (Err w) h e = shut img args rest 0 gives after h refl
  never_open (Ok n) h e = absurd (e (fit h refl).right)

-- the same of the call that answers a holder
module _ (img : List ℕ) (args : Type 0) (rest : Rows) (gives : Holder → Type 0) (after : Vol) where
  pub held_on : (g : Result ℕ Refusal) (w : Refusal) (r : Result Holder Refusal) → Entered img args g → g ≡ Err w → r ≡ Err w → Outcome (asking img args rest Free gives after) img (holding r) img
  held_on g w r h e q = subst (λ (x : Result Holder Refusal). Outcome (asking img args rest Free gives after) img (holding x) img) (sym q) (shut img args rest Free gives after h e)

-- what the calls' modules prove their outcomes by
pub ruleset outcomes = (own_row, handed_on, finished)
