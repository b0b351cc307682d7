-- One turn of a run. Assumes nothing.
use mathlib.Core.Path.{◌≡◌, sym, subst, ◌∙◌}
use mathlib.Core.Bool.{Bool, false}
use mathlib.Core.List.{List}
use Prim.Native.Nat.{ℕ, suc, ◌+◌, ◌/◌, ◌<◌}
use native.Mathlib.Numerals.{add-one}
use native.Mathlib.Omega.{arith}
use lib.Dec.{eqb}
use lib.ListN.{length, get_or, length-take, length-drop}
use borrow.Author.Tests.{ne_eqb}
use Rattle.book.specs.Answers.{Numbers}
use Rattle.book.specs.Image.{Ready}
use Rattle.book.specs.Run.{step_of, step_call, numbered, wrong_call, Result, NumberResult, HolderResult, ChangesResult, pick_result, StepResult, limit, Made, more, Ran, stopped}
use Rattle.run.specs.Fair.{lawful-step}
use Rattle.run.specs.StepMade.{StepMade}
use Rattle.run.specs.Asked.{call_number, valued_number, valued_call}
use Rattle.run.specs.declared.call.Call.{Call}
use Rattle.run.specs.declared.call.Call.TheVariants.{WhoHolds, Salvage}
use Rattle.run.specs.declared.call.Valued.{Valued}
use Rattle.run.specs.declared.call.Valued.TheVariants.{Named, Typed, Check, Address, DeleteUser, Give, Take, Grow, Shrink, DeleteFile, ReadPage, WritePage, NoteOpen, ConvertToApostrophe, ConvertToZeros}
use Rattle.run.specs.declared.call.Named.TheVariants.{Format, FormatDefault, FindUser, CreateUser}
use Rattle.run.specs.declared.call.Typed.TheVariants.{FindFile, CreateIndexed, CreateContiguous}
use Rattle.run.proofs.Parts.{none-numbered}

pub step-length : (steps : List ℕ) (i : ℕ) → i < length steps / 10 → length (step_of steps i) ≡ 10
step-length steps i h = simp (length-take, length-drop) (omega arith)

-- ---- the result of a step, by its call's number c

module _ (r : Numbers ℕ) (img' list' : List ℕ) where
  skip : (b : Bool) (R Q : Result) → b ≡ false → Q r img' list' → pick_result b R Q r img' list'
  skip b R Q e o = subst (λ (x : Bool). pick_result x R Q r img' list') (sym e) o

  module _ (img list s text words : List ℕ) where
    abbrev At : ℕ → Type 0
    At x = pick_result (eqb x 6) (HolderResult img list (get_or s 3 0))
        (pick_result (eqb x 22) (ChangesResult img list)
        (NumberResult (numbered x (get_or s 1 0) (get_or s 2 0) (get_or s 3 0) (get_or s 4 0) img s text words) img list)) r img' list'

    step-at : At (get_or s 0 0) → StepResult img list s text words r img' list'
    unfolding StepResult step_call
    step-at o = o

    -- the call that a number asks for
    valued-at : (k : Valued) → NumberResult (valued_call img s text words (get_or s 1 0) (get_or s 2 0) (get_or s 3 0) (get_or s 4 0) k) img list r img' list' → At (valued_number k)
    unfolding numbered
    valued-at (Named Format) o = o
    valued-at (Named FormatDefault) o = o
    valued-at (Named FindUser) o = o
    valued-at (Named CreateUser) o = o
    valued-at (Typed FindFile) o = o
    valued-at (Typed CreateIndexed) o = o
    valued-at (Typed CreateContiguous) o = o
    valued-at Check o = o
    valued-at Address o = o
    valued-at DeleteUser o = o
    valued-at Give o = o
    valued-at Take o = o
    valued-at Grow o = o
    valued-at Shrink o = o
    valued-at DeleteFile o = o
    valued-at ReadPage o = o
    valued-at WritePage o = o
    valued-at NoteOpen o = o
    valued-at ConvertToApostrophe o = o
    valued-at ConvertToZeros o = o

    module _ (c : ℕ) (e : c ≡ get_or s 0 0) where
      pub step-holder : c ≡ 6 → (n : ℕ) → n ≡ get_or s 3 0 → HolderResult img list n r img' list' → StepResult img list s text words r img' list'
      step-holder z n q o = step-at (subst At (sym z ∙ e) (subst (λ (x : ℕ). HolderResult img list x r img' list') q o))

      pub step-changes : c ≡ 22 → ChangesResult img list r img' list' → StepResult img list s text words r img' list'
      step-changes z o = step-at (subst At (sym z ∙ e) o)

      pub step-valued : (k : Valued) → c ≡ valued_number k
          → NumberResult (valued_call img s text words (get_or s 1 0) (get_or s 2 0) (get_or s 3 0) (get_or s 4 0) k) img list r img' list' → StepResult img list s text words r img' list'
      step-valued k z o = step-at (subst At (sym z ∙ e) (valued-at k o))

      -- no call has the number
      pub step-none : ((k : Call) → c ≡ call_number k → ⊥) → NumberResult (wrong_call img) img list r img' list' → StepResult img list s text words r img' list'
      step-none h o = step-at (subst At e
          (skip (eqb c 6) _ _ (ne_eqb c 6 (h WhoHolds)) (skip (eqb c 22) _ _ (ne_eqb c 22 (h Salvage))
          (record { outcome = none-numbered img r img' s text words c _ _ _ _ h o.outcome; kept = o.kept }))))

-- ---- one turn

module _ (steps text words img₀ list₀ out₀ : List ℕ) (k : ℕ) (img img' list list' out out' s : List ℕ) (b : Bool)
    (M : Made steps text words img₀ list₀ out₀ k img list out) (e : s ≡ step_of steps k) (o : StepMade img list s text words out k img' list' out' b) where
  made : StepResult img list (step_of steps k) text words o.numbers img' list'
  made = subst (λ (x : List ℕ). StepResult img list x text words o.numbers img' list') e o.result

  pub again : o.numbers.number ≡ 0 → Made steps text words img₀ list₀ out₀ (k + 1) img' list' out'
  again z =
      subst (λ (n : ℕ). Made steps text words img₀ list₀ out₀ n img' list' out') (sym (add-one k))
      (subst (λ (x : List ℕ). Made steps text words img₀ list₀ out₀ (suc k) img' list' x) (sym o.reply) (more o.numbers M made z))

  pub again-ready : o.numbers.number ≡ 0 → Ready img'
  again-ready z = (lawful-step img list s text words).leaves o.numbers img' list' o.result z

  pub stops : k < limit steps out₀ → (o.numbers.number ≡ 0 → ⊥) → Ran steps text words img₀ list₀ out₀ (k + 1) img' list' out'
  stops l h =
      subst (λ (n : ℕ). Ran steps text words img₀ list₀ out₀ n img' list' out') (sym (add-one k))
      (subst (λ (x : List ℕ). Ran steps text words img₀ list₀ out₀ (suc k) img' list' x) (sym o.reply) (stopped o.numbers l M made h))
