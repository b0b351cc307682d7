-- How a call comes back: from a shut gate, from its own row that fails, or from all its rows, to its outcome. Assumes nothing.
use Rattle.std.specs.Prelude.{◌≡◌, Bool, List, ℕ, Result, Ok, Err, ◌<◌, length}
use Rattle.std.proofs.Math.Path.{refl}
use Rattle.std.proofs.Common.{subst}
use Rattle.std.proofs.Math.Bool.{true}
use Rattle.std.proofs.Math.Logic.{inl, inr}
use native.Mathlib.Omega.{arith}
use Rattle.book.specs.Words.{Vol, vol}
use Rattle.book.specs.Holders.{visits}
use Rattle.book.specs.Rows.{Rows, Lowest, Clear}
use Rattle.book.specs.Image.{pages}
use Rattle.book.specs.Answers.{unbroken, number_of, broken_of, done_with, refused_with}
use Rattle.book.specs.Outcome.{Call, asking, judged, Outcome, BrokenFor}
use Rattle.book.specs.Coincide.{broken-unsound}
use Rattle.book.specs.Gate.{Shuts, Gated}
use Rattle.book.specs.Enter.{Fit, Enters, Entered}
use Rattle.book.specs.declared.Refusal.{Refusal}
use Rattle.book.specs.declared.Refusal.TheVariants.{Size, Argument, Unsound, Missing, Taken, Kind, HasFiles, Full, Allowance, Unreserved, NoRun, Fill, Overdrawn, ShortList}

-- every refusal has a number
pub number-pos : (w : Refusal) → 0 < number_of w
number-pos Size = omega arith
number-pos Argument = omega arith
number-pos (Unsound b) = omega arith
number-pos Missing = omega arith
number-pos Taken = omega arith
number-pos Kind = omega arith
number-pos HasFiles = omega arith
number-pos Full = omega arith
number-pos Allowance = omega arith
number-pos Unreserved = omega arith
number-pos NoRun = omega arith
number-pos Fill = omega arith
number-pos Overdrawn = omega arith
number-pos ShortList = omega arith

-- a refusal of a call's own: any but 1, 2 and 3
abbrev pub Own : Refusal → Type 0
Own Size = ⊥
Own Argument = ⊥
Own (Unsound b) = ⊥
Own Missing = Unit {0}
Own Taken = Unit {0}
Own Kind = Unit {0}
Own HasFiles = Unit {0}
Own Full = Unit {0}
Own Allowance = Unit {0}
Own Unreserved = Unit {0}
Own NoRun = Unit {0}
Own Fill = Unit {0}
Own Overdrawn = Unit {0}
Own ShortList = Unit {0}

-- nothing broken is told with it, for its number is not 3
own-plain : (w : Refusal) → Own w → (broken_of w ≡ unbroken) × (number_of w ≡ 3 → ⊥)
own-plain Missing h = (refl, λ e. omega (arith, e))
own-plain Taken h = (refl, λ e. omega (arith, e))
own-plain Kind h = (refl, λ e. omega (arith, e))
own-plain HasFiles h = (refl, λ e. omega (arith, e))
own-plain Full h = (refl, λ e. omega (arith, e))
own-plain Allowance h = (refl, λ e. omega (arith, e))
own-plain Unreserved h = (refl, λ e. omega (arith, e))
own-plain NoRun h = (refl, λ e. omega (arith, e))
own-plain Fill h = (refl, λ e. omega (arith, e))
own-plain Overdrawn h = (refl, λ e. omega (arith, e))
own-plain ShortList h = (refl, λ e. omega (arith, e))
own-plain Size h = elim h [ ]
own-plain Argument h = elim h [ ]
own-plain (Unsound _) h = elim h [ ]

module _ {A : Type 0} (img : List ℕ) (args : Type 0) (rest : Rows) (none : A) (gives : A → Type 0) (after : Vol) where
  abbrev C : Call A
  C = asking img args rest none gives after

  -- refused with a number other than 3
  plain : (w : Refusal) → (broken_of w ≡ unbroken) × (number_of w ≡ 3 → ⊥) → Lowest C.table (number_of w) → Outcome C img (refused_with none w) img
  unfolding Outcome BrokenFor asking
  plain w p l = inl record { number = l; value = refl; broken = (λ e. absurd (p.1 e), λ e. p.0); image = refl }

  shuts : (w : Refusal) → Shuts img args w → Outcome C img (refused_with none w) img
  unfolding asking judged Lowest Outcome BrokenFor
  shuts Size h = plain Size (refl, λ e. let z : ⊥ = omega arith in z) (inl (refl, h))
  shuts Argument h = plain Argument (refl, λ e. let z : ⊥ = omega arith in z) (inr (h.0, inl (refl, h.1)))
  shuts (Unsound b) h = inl record {
    number = inr (h.0, inr (h.1, inl (refl, broken-unsound true (pages img) (vol img) b.rule h.2.rule)));
    value = refl;
    broken = (λ e. h.2, λ e. absurd (e refl));
    image = refl;
  }
  shuts Missing h = absurd h
  shuts Taken h = absurd h
  shuts Kind h = absurd h
  shuts HasFiles h = absurd h
  shuts Full h = absurd h
  shuts Allowance h = absurd h
  shuts Unreserved h = absurd h
  shuts NoRun h = absurd h
  shuts Fill h = absurd h
  shuts Overdrawn h = absurd h
  shuts ShortList h = absurd h

  -- the gate is shut: that is the call's outcome
  pub shut : {g : Result ℕ Refusal} {w : Refusal} → Entered img args g → g ≡ Err w → Outcome C img (refused_with none w) img
  shut {g} {w} h e = shuts w (subst (λ (x : Result ℕ Refusal). Enters img args x) e h.enters)

  -- one of the call's own rows fails
  pub refused : Fit img args → (w : Refusal) → Own w → Lowest rest (number_of w) → Outcome C img (refused_with none w) img
  unfolding asking judged Lowest
  refused f w o l = plain w (own-plain w o) (inr (f.ready.whole, inr (f.right, inr (f.ready.sound, l))))

  -- all of them hold
  pub finished : Fit img args → Clear rest → (x : A) → gives x → (img' : List ℕ) → vol img' ≡ after → length img' ≡ length img → Outcome C img (done_with x) img'
  unfolding asking judged Clear Outcome
  finished f c x g img' e l = inr record { number = refl; clear = (f.ready.whole, (f.right, (f.ready.sound, c))); value = g; broken = refl; image = e; size = l }

-- an open gate of the check counts the volume's visits
pub gate-visits : (img : List ℕ) (ok : Bool) (g : Result ℕ Refusal) (n : ℕ) → Gated img ok g → g ≡ Ok n → n ≡ visits (pages img) (vol img)
gate-visits img ok g n h e = (subst (λ (x : Result ℕ Refusal). Gated img ok x) e h).2
