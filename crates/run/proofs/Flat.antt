-- The list of changes as plain numbers: filled change by change, and what salvage says of it then. Assumes nothing.
use Rattle.std.proofs.Common.{Result}
use mathlib.Core.Path.{◌≡◌, refl, sym, ap, ap₂, ◌∙◌}
use mathlib.Core.Logic.{◌⊎◌, inl, inr}
use mathlib.Core.List.{List, [], ◌∷◌, ◌++◌, map}
use Prim.Native.Nat.{ℕ, zero, suc, ◌+◌, ◌*◌, ◌/◌, ◌≤◌, ◌<◌}
use native.Mathlib.Nat.{not-suc-le-zero, le_of_suc-le-suc}
use native.Mathlib.Omega.{arith}
use lib.ListN.{length, take, drop, set, get_or}
use Rattle.book.specs.Answers.{numbers}
use Rattle.book.specs.Calls.{salvage_call, repairs, repaired}
use Rattle.book.specs.Outcome.{Outcome, RefusedAs, DoneAs}
use Rattle.book.specs.declared.Refusal.{Refusal}
use Rattle.book.specs.declared.Change.{Change}
use Rattle.salvage.specs.Mending.{Mends, mends-counted}
use Rattle.salvage.specs.Row.{unpacked}
use Rattle.book.specs.Run.{flat, ChangesResult, put_four}

-- ---- the list on the way

abbrev pub flat_filled : List ℕ → List ℕ → ℕ → List ℕ
flat_filled xs row k = flat (map unpacked (take k row)) ++ drop (4 * k) xs

-- 4 * k, and a change put at such a place, in numbers that compute
fours : ℕ → ℕ
fours zero = zero
fours (suc k) = suc (suc (suc (suc (fours k))))

fours_is : (k : ℕ) → fours k ≡ 4 * k
unfolding fours
fours_is zero = refl
fours_is (suc k) = let e : fours k ≡ 4 * k = fours_is k in omega (arith, e)

abbrev put_at : List ℕ → ℕ → Change → List ℕ
put_at l j c = set (set (set (set l j c.page) (suc j) c.word) (suc (suc j)) c.old) (suc (suc (suc j))) c.new

put-at : (l : List ℕ) (at : ℕ) (c : Change) → put_four l at c.page c.word c.old c.new ≡ put_at l at c
put-at l at c =
    let p : at + 1 ≡ suc at = omega arith in let q : at + 2 ≡ suc (suc at) = omega arith in let r : at + 3 ≡ suc (suc (suc at)) = omega arith in
    ap (λ (x : ℕ). set (set (set (set l at c.page) x c.word) (at + 2) c.old) (at + 3) c.new) p
    ∙ ap (λ (x : ℕ). set (set (set (set l at c.page) (suc at) c.word) x c.old) (at + 3) c.new) q
    ∙ ap (λ (x : ℕ). set (set (set (set l at c.page) (suc at) c.word) (suc (suc at)) c.old) x c.new) r

flat-more : (xs row : List ℕ) (k : ℕ) → suc (suc (suc (suc (fours k)))) ≤ length xs → k < length row
    → put_at (flat (map unpacked (take k row)) ++ drop (fours k) xs) (fours k) (unpacked (get_or row k 0)) ≡ flat (map unpacked (take (suc k) row)) ++ drop (fours (suc k)) xs
unfolding flat fours
flat-more [] row k h l = absurd (not-suc-le-zero h)
flat-more (a ∷ []) row k h l = absurd (not-suc-le-zero (le_of_suc-le-suc h))
flat-more (a ∷ b ∷ []) row k h l = absurd (not-suc-le-zero (le_of_suc-le-suc (le_of_suc-le-suc h)))
flat-more (a ∷ b ∷ c ∷ []) row k h l = absurd (not-suc-le-zero (le_of_suc-le-suc (le_of_suc-le-suc (le_of_suc-le-suc h))))
flat-more (a ∷ b ∷ c ∷ d ∷ xs) [] k h l = absurd (not-suc-le-zero l)
flat-more (a ∷ b ∷ c ∷ d ∷ xs) (y ∷ row) zero h l = refl
flat-more (a ∷ b ∷ c ∷ d ∷ xs) (y ∷ row) (suc k) h l =
    ap {B = List ℕ} (λ r. (unpacked y).page ∷ (unpacked y).word ∷ (unpacked y).old ∷ (unpacked y).new ∷ r)
    (flat-more xs row k (le_of_suc-le-suc (le_of_suc-le-suc (le_of_suc-le-suc (le_of_suc-le-suc h)))) (le_of_suc-le-suc l))

-- one more change is told by its four numbers
pub flat-next : (xs row : List ℕ) (k : ℕ) (c : Change) → 4 * k + 4 ≤ length xs → k < length row → c ≡ unpacked (get_or row k 0)
    → put_four (flat_filled xs row k) (4 * k) c.page c.word c.old c.new ≡ flat_filled xs row (k + 1)
flat-next xs row k c h l e =
    let f : fours k ≡ 4 * k = fours_is k in
    let g : fours (suc k) ≡ 4 * (k + 1) = fours_is (suc k) ∙ omega arith in
    let n : suc k ≡ k + 1 = omega arith in
    let m : suc (suc (suc (suc (fours k)))) ≤ length xs = omega (arith, f, h) in
    put-at (flat_filled xs row k) (4 * k) c ∙ ap (put_at (flat_filled xs row k) (4 * k)) e
    ∙ ap (λ (j : ℕ). put_at (flat (map unpacked (take k row)) ++ drop j xs) j (unpacked (get_or row k 0))) (sym f) ∙ flat-more xs row k m l
    ∙ ap₂ (λ (i j : ℕ). flat (map unpacked (take i row)) ++ drop j xs) n g

-- ---- salvage with such a list

pub changes-result : (img list : List ℕ) (a : Result ℕ Refusal) (img' list' row' : List ℕ) (n : ℕ) → Mends img (length list / 4) a img' row' → n ≡ (numbers a).value
    → list' ≡ flat_filled list row' n → ChangesResult img list (numbers a) img' list'
unfolding Outcome salvage_call flat
changes-result img list a img' list' row' n m e w = record { outcome = m.outcome; listed = record { done = done; refused = refused m.outcome } }
  where
    filled : list' ≡ flat_filled list row' (numbers a).value
    filled = w ∙ ap (flat_filled list row') e

    done : (numbers a).number ≡ 0 → list' ≡ flat (repairs img) ++ drop (4 * repaired img) list
    done z = filled ∙ ap₂ (λ (l : List Change) (k : ℕ). flat l ++ drop (4 * k) list) (m.told z) (mends-counted img (length list / 4) a img' row' m z)

    refused : (RefusedAs (salvage_call img (length list / 4)) img (numbers a) img' ⊎ DoneAs (salvage_call img (length list / 4)) img (numbers a) img') → ((numbers a).number ≡ 0 → ⊥) → list' ≡ list
    refused (inl x) z = filled ∙ ap (flat_filled list row') x.value
    refused (inr x) z = absurd (z x.number)
