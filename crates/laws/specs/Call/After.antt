-- From a step to its call: what holds of the step's volume holds after the call, done or refused. Assumes nothing.
use Rattle.std.specs.Prelude.{◌≡◌, ◌⊎◌, ℕ, ◌+◌, ◌*◌, ◌<◌, ◌/◌, ◌%◌, length}
use Rattle.std.proofs.Common.{sym, ◌∙◌, inl, inr}
use Rattle.std.proofs.Math.Path.{subst, ap}
use mathlib.Core.List.{List}
use Rattle.std.proofs.Math.Decide.{dec_lt}
use native.Mathlib.Omega.{arith}
use Rattle.book.specs.Answers.{Numbers}
use Rattle.book.specs.Image.{pages, Sixteen, Whole}
use Rattle.book.specs.Outcome.{Call, asking, judged, Outcome, RefusedAs, DoneAs, call}
use Rattle.book.specs.Rows.{Rows, Clear, Counted, lowest-counted}
use Rattle.book.specs.Rules.{Sound}
use Rattle.book.specs.Words.{Vol, vol}
use Rattle.book.specs.Written.{vol-in, vol-out}
use Rattle.laws.specs.Frame.Places.{Places, OnlyAt}

-- an image as long as a whole one is whole
pub whole_same : (img img' : List ℕ) → length img' ≡ length img → Whole img → Whole img'
whole_same img img' e W =
    let p : pages img' ≡ pages img = ap (λ (n : ℕ). n / 1024) e in
    record { even = ap (λ (n : ℕ). n % 1024) e ∙ W.even; least = omega (arith, W.least, p); most = omega (arith, W.most, p) }

-- the words of its volume have 16 bits
pub small-words : (img : List ℕ) → Sixteen img → (p k : ℕ) → vol img p k < 65536
small-words img h p k = elim (dec_lt k 1024) [
  | yes l ↦ omega (arith, vol-in img p k l, h (1024 * p + k))
  | no l ↦ omega (arith, vol-out img p k (omega arith))
]

module _ {A : Type 0} (img : List ℕ) (args : Type 0) (rest : Rows) (none : A) (gives : A → Type 0) (after : Vol) (r : Numbers A) (img' : List ℕ)
    (o : Outcome (asking img args rest none gives after) img r img') (Q : Vol → Type 0) where
  abbrev C : Call A
  C = asking img args rest none gives after

  -- of the step's volume: it may assume that no number applies
  step-done : (Whole img → args → Sound (pages img) (vol img) → Clear rest → Q after) → DoneAs C img r img' → Q (vol img')
  unfolding asking judged Clear
  step-done s x = let c = x.clear in subst Q (sym x.image) (s c.0 c.1.0 c.1.1.0 c.1.1.1)

  pub after_call : Q (vol img) → (Whole img → args → Sound (pages img) (vol img) → Clear rest → Q after) → Q (vol img')
  unfolding Outcome
  after_call b s = go o
    where
      go : (RefusedAs C img r img' ⊎ DoneAs C img r img') → Q (vol img')
      go (inl x) = subst (λ (i : List ℕ). Q (vol i)) (sym x.image) b
      go (inr x) = step-done s x

  -- with number 0 the step was taken: no refusal has it
  pub after-done : Counted rest → r.number ≡ 0 → (Whole img → args → Sound (pages img) (vol img) → Clear rest → Q after) → Q (vol img')
  unfolding Outcome asking judged Counted
  after-done a z s = go o
    where
      go : (RefusedAs C img r img' ⊎ DoneAs C img r img') → Q (vol img')
      go (inl x) = absurd (let h : 0 < r.number = lowest-counted C.table r.number (omega arith, (omega arith, (omega arith, a))) x.number in omega arith)
      go (inr x) = step-done s x

module _ {A : Type 0} (img : List ℕ) (args : Type 0) (rest : Rows) (none : A) (gives : A → Type 0) (after : Vol) (r : Numbers A) (img' : List ℕ)
    (o : Outcome (asking img args rest none gives after) img r img') where
  -- a step that keeps a sound volume sound makes a call that does
  pub kept-call : (Whole img → args → Sound (pages img) (vol img) → Clear rest → Sound (pages img) after)
      → Sound (pages img) (vol img) → Sound (pages img') (vol img')
  unfolding Outcome asking judged Clear
  kept-call step S = go o
    where
      go : (RefusedAs (asking img args rest none gives after) img r img' ⊎ DoneAs (asking img args rest none gives after) img r img') → Sound (pages img') (vol img')
      go (inl x) = subst (λ (i : List ℕ). Sound (pages i) (vol i)) (sym x.image) S
      go (inr x) =
          let c = x.clear in
          subst (λ (l : ℕ). Sound (l / 1024) (vol img')) (sym x.size)
          (subst (λ (w : Vol). Sound (pages img) w) (sym x.image) (step c.0 c.1.0 c.1.1.0 c.1.1.1))

  -- a word that the step leaves, the call leaves
  pub frame-call : (p k : ℕ) → (Whole img → args → Sound (pages img) (vol img) → Clear rest → after p k ≡ vol img p k) → vol img' p k ≡ vol img p k
  unfolding Outcome asking judged Clear
  frame-call p k e = go o
    where
      go : (RefusedAs (asking img args rest none gives after) img r img' ⊎ DoneAs (asking img args rest none gives after) img r img') → vol img' p k ≡ vol img p k
      go (inl x) = ap (λ (i : List ℕ). vol i p k) x.image
      go (inr x) = let c = x.clear in ap (λ (w : Vol). w p k) x.image ∙ e c.0 c.1.0 c.1.1.0 c.1.1.1

-- the volume v' after a step
pub record Stepped (P : ℕ) (Q : Vol → Type 0) (v' : Vol) : Type 0 where
  pub sound : Sound P v'
  pub leaves : Q v'

-- the image img' after its call, done or refused; the step may change the words at A
pub record Called (img : List ℕ) (A : Places) (Q : Vol → Type 0) (img' : List ℕ) : Type 0 where
  pub kept : Sound (pages img) (vol img) → Sound (pages img') (vol img')
  pub frame : OnlyAt A (vol img) (vol img')
  pub leaves : Q (vol img')

pub called : (img : List ℕ) (args : Type 0) (rest : Rows) (after : Vol) (A : Places) (Q : Vol → Type 0) → OnlyAt A (vol img) after → Q (vol img)
    → (Whole img → args → Sound (pages img) (vol img) → Clear rest → Stepped (pages img) Q after)
    → (r : Numbers ℕ) (img' : List ℕ) → Outcome (call img args rest 0 after) img r img' → Called img A Q img'
unfolding call
called img args rest after A Q only before step r img' o = record {
  kept = kept-call img args rest 0 _ after r img' o (λ W a S c. (step W a S c).sound);
  frame = λ p k h. frame-call img args rest 0 _ after r img' o p k (λ W a S c. only p k h);
  leaves = after_call img args rest 0 _ after r img' o Q before (λ W a S c. (step W a S c).leaves);
}
