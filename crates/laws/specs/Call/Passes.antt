-- From an image that check passes, any sequence of calls leaves one that check passes. Assumes nothing.
use Rattle.std.specs.Prelude.{◌≡◌, List, [], ◌∷◌, ℕ, length}
use Rattle.std.proofs.Common.{ap, ◌∙◌, inl, inr, arith}
use Rattle.book.specs.Words.{vol}
use Rattle.book.specs.Rules.{Sound}
use Rattle.book.specs.Rows.{end, Lowest, Clear, lowest-applies, clear_none}
use Rattle.book.specs.Answers.{Numbers}
use Rattle.book.specs.Image.{pages, Whole}
use Rattle.book.specs.Outcome.{Call, call, asking, judged, Outcome}
use Rattle.book.specs.Calls.{check_call}
use Rattle.laws.specs.Call.After.{whole_same}
use Rattle.laws.specs.Call.Sequence.{Step, made, Calls, kept-all}

-- ---- no call changes the length

outcome-size : {A : Type 0} (C : Call A) (img img' : List ℕ) (r : Numbers A) → Outcome C img r img' → length img' ≡ length img
unfolding Outcome
outcome-size C img img' r (inl x) = ap length x.image
outcome-size C img img' r (inr x) = x.size

pub size-all : (l : List Step) (img img' : List ℕ) → Calls l img img' → length img' ≡ length img
unfolding Calls
size-all [] img img' e = ap length e
size-all (s ∷ l) img img' (next, c, cs) = size-all l next img' cs ∙ outcome-size (made s img).1 img next c.0 c.1

pub whole-all : (l : List Step) (img img' : List ℕ) → Calls l img img' → Whole img → Whole img'
whole-all l img img' cs = whole_same img img' (size-all l img img' cs)

-- ---- check passes exactly when the image is whole and sound

pub passes-sound : (img : List ℕ) (r : Numbers ℕ) → Outcome (check_call img) img r img → r.number ≡ 0 → Whole img × Sound (pages img) (vol img)
unfolding Outcome check_call call asking judged Clear Lowest
passes-sound img r (inr x) z = (x.clear.0, x.clear.1.1.0)
passes-sound img r (inl x) z = absurd (low x.number)
  where
    low : Lowest (judged img (Unit {0}) end) r.number → ⊥
    low (inl e) = omega (arith, e.0, z)
    low (inr (w, inl e)) = omega (arith, e.0, z)
    low (inr (w, inr (a, inl e))) = omega (arith, e.0, z)
    low (inr (w, inr (a, inr (s, e)))) = e

pub sound-passes : (img : List ℕ) (r : Numbers ℕ) → Outcome (check_call img) img r img → Whole img → Sound (pages img) (vol img) → r.number ≡ 0
unfolding Outcome check_call call asking judged Clear
sound-passes img r (inr x) w s = x.number
sound-passes img r (inl x) w s = absurd (clear_none (check_call img).table (w, (tt, (s, tt))) r.number (lowest-applies (check_call img).table r.number x.number))

-- whatever the two checks came back with, by their contracts
pub checked-all : (l : List Step) (img img' : List ℕ) → Calls l img img' → (r s : Numbers ℕ) → Outcome (check_call img) img r img → Outcome (check_call img') img' s img' → r.number ≡ 0 → s.number ≡ 0
checked-all l img img' cs r s a b z = let p = passes-sound img r a z in sound-passes img' s b (whole-all l img img' cs p.0) (kept-all l img img' cs p.1)
