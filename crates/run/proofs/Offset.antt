-- From the address of a page to where its words begin. Assumes nothing.
use mathlib.Core.Path.{◌≡◌, refl, ap, subst}
use mathlib.Core.Logic.{◌⊎◌, inl, inr}
use mathlib.Core.List.{List}
use Rattle.std.proofs.Common.{Result, Ok, Err}
use Prim.Native.Nat.{ℕ, ◌*◌, ◌<◌}
use native.Mathlib.Omega.{arith}
use lib.ListN.{take, drop}
use Rattle.book.specs.Words.{vol}
use Rattle.book.specs.Rows.{Clear}
use Rattle.book.specs.Answers.{Numbers, numbers, number_of, refused_with, done_with}
use Rattle.book.specs.Outcome.{call, asking, judged, Outcome, RefusedAs, DoneAs}
use Rattle.book.specs.Calls.{address_call, read_call}
use Rattle.book.specs.Entries.{file_entry}
use Rattle.book.specs.Files.{file_at}
use Rattle.book.specs.Image.{pages}
use Rattle.book.specs.Return.{number-pos}
use Rattle.book.specs.declared.Refusal.{Refusal}
use Rattle.laws.specs.Call.Done.{done}
use Rattle.laws.specs.Count.Good.{most, sound-within}
use Rattle.laws.specs.Frame.Roots.{page_at-below}
use Rattle.book.specs.Run.{offset_call}
use Rattle.run.specs.Fair.{fair-address}

module _ (img : List ℕ) (u f n : ℕ) (a : Result ℕ Refusal) (o : Outcome (address_call img u f n) img (numbers a) img) where
  pub refused-offset : (w : Refusal) → a ≡ Err w → Outcome (offset_call img u f n) img (refused_with 0 w) img
  unfolding Outcome address_call offset_call call asking
  refused-offset w e = go (subst (λ (b : Result ℕ Refusal). Outcome (address_call img u f n) img (numbers b) img) e o)
    where
      go : (RefusedAs (address_call img u f n) img (refused_with 0 w) img ⊎ DoneAs (address_call img u f n) img (refused_with 0 w) img) → Outcome (offset_call img u f n) img (refused_with 0 w) img
      go (inl x) = inl (record { number = x.number; value = refl; broken = x.broken; image = refl })
      go (inr x) = absurd (let z : 0 < number_of w = number-pos w in omega (arith, z, x.number))

  module _ (v : ℕ) (e : a ≡ Ok v) where
    found : DoneAs (address_call img u f n) img (done_with v) img
    found = done (address_call img u f n) img (done_with v) img (fair-address img u f n).counted (subst (λ (b : Result ℕ Refusal). Outcome (address_call img u f n) img (numbers b) img) e o) refl

    pub page-small : 1024 * v < 4294967296
    unfolding address_call call asking judged Clear
    page-small = let c = found.clear in let W = c.0 in let S = c.1.1.0 in
        omega (
          arith,
          found.value,
          W.least,
          W.most,
          c.1.0.0,
          c.1.0.1,
          page_at-below (vol img) (pages img) (omega (arith, W.least)) (file_at (vol img) (file_entry u f)) ((sound-within (pages img) (vol img) (most (pages img) (vol img) S)).files u f (omega (arith, c.1.0.0)) (omega (arith, c.1.0.1))) n,
        )

    pub done-offset : Outcome (offset_call img u f n) img (done_with (1024 * v)) img
    unfolding Outcome address_call offset_call call asking
    done-offset = inr (record { number = refl; clear = found.clear; value = ap (λ (x : ℕ). 1024 * x) found.value; broken = refl; image = refl; size = refl })

-- the 1,024 words from there on are those that reading the page gives
pub offset-reads : (img : List ℕ) (u f n : ℕ) (r : Numbers ℕ) (img' : List ℕ) → DoneAs (offset_call img u f n) img r img' → (read_call img u f n).gives (take 1024 (drop r.value img))
unfolding offset_call read_call call asking
offset-reads img u f n r img' d = ap (λ (x : ℕ). take 1024 (drop x img)) d.value
