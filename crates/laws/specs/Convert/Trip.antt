-- There and back by the two calls: for every old volume, and the other way about; when a conversion is refused. Assumes nothing.
use Rattle.std.specs.Prelude.{◌≡◌, refl, ◌≢◌, ◌↔◌, List, ℕ, ◌<◌}
use Rattle.std.proofs.Math.Path.{ap}
use Rattle.std.proofs.Common.{◌∙◌, arith}
use Rattle.std.proofs.Math.Logic.{inl, inr}
use Rattle.book.specs.Answers.{Numbers}
use Rattle.book.specs.Calls.{convert_call}
use Rattle.book.specs.Coincide.{vol-ext}
use Rattle.book.specs.Convert.{AllFilled, convert}
use Rattle.book.specs.Image.{pages, Sixteen, Whole}
use Rattle.book.specs.Names.{apostrophe, ends}
use Rattle.book.specs.Outcome.{Outcome, DoneAs, call, asking, judged}
use Rattle.book.specs.Rows.{Clear, Lowest}
use Rattle.book.specs.Rules.{Sound, OldSound}
use Rattle.book.specs.Words.{vol}
use Rattle.laws.specs.Call.After.{whole_same, small-words}
use Rattle.laws.specs.Call.Done.{clear-done, number-lowest}
use Rattle.laws.specs.Convert.Back.{there_and_back, AllFull, both-full}
use Rattle.laws.specs.Convert.Call.{kept-convert, filled-convert}
use Rattle.laws.specs.File.Stored.{ends-zero, ends-apostrophe}
use Rattle.laws.specs.File.ZeroFilled.{old-sound, old-all-filled, sound-old}

-- ---- when it is done, and when it is refused

module _ (from to : ℕ) (img : List ℕ) (W : Whole img) (S : Sound (pages img) (vol img)) (r : Numbers ℕ) (img' : List ℕ) (o : Outcome (convert_call from to img) img r img') where
  pub done-convert : AllFilled from (vol img) → DoneAs (convert_call from to img) img r img'
  unfolding convert_call call asking judged Clear
  done-convert F = clear-done (convert_call from to img) img r img' (W, (tt, (S, (F, tt)))) o

  -- of a whole and sound image 12 comes back exactly if some short name has not the starting fill
  pub refused-convert : (r.number ≡ 12) ↔ (AllFilled from (vol img) → ⊥)
  unfolding convert_call call asking judged Lowest
  refused-convert = (
    (λ q. asks ((number-lowest (convert_call from to img) img r img' o 12 (omega arith)).0 q)),
    λ n. (number-lowest (convert_call from to img) img r img' o 12 (omega arith)).1 (inr (W, inr (tt, inr (S, inl (refl, n))))),
  )
    where
      asks : Lowest (convert_call from to img).table 12 → AllFilled from (vol img) → ⊥
      asks (inl e) F = absurd (let z : ⊥ = omega (arith, e.0) in z)
      asks (inr (w, inl e)) F = absurd (let z : ⊥ = omega (arith, e.0) in z)
      asks (inr (w, inr (a, inl e))) F = absurd (let z : ⊥ = omega (arith, e.0) in z)
      asks (inr (w, inr (a, inr (s, inl e)))) F = e.1 F
      asks (inr (w, inr (a, inr (s, inr e)))) F = e.1

-- ---- a volume whose short names all have one fill

-- every outcome of the call there is done and sound, and every outcome of the call back is done and gives the first image
pub record ThereAndBack (from to : ℕ) (img : List ℕ) : Type 0 where
  pub there : (r : Numbers ℕ) (img₁ : List ℕ) → Outcome (convert_call from to img) img r img₁ → (r.number ≡ 0) × Sound (pages img₁) (vol img₁) × AllFilled to (vol img₁)
  pub back : (r : Numbers ℕ) (img₁ : List ℕ) → Outcome (convert_call from to img) img r img₁
      → (s : Numbers ℕ) (img₂ : List ℕ) → Outcome (convert_call to from img₁) img₁ s img₂ → (s.number ≡ 0) × (img₂ ≡ img)

module _ (from to : ℕ) (mf : 0 < ends from) (mt : 0 < ends to) (img : List ℕ) (B : Sixteen img) (W : Whole img) (S : Sound (pages img) (vol img)) (F : AllFilled from (vol img)) where
  module _ (r : Numbers ℕ) (img₁ : List ℕ) (o : Outcome (convert_call from to img) img r img₁) where
    D : DoneAs (convert_call from to img) img r img₁
    D = done-convert from to img W S r img₁ o F

    S₁ : Sound (pages img₁) (vol img₁)
    S₁ = kept-convert from to mt img r img₁ o S

    F₁ : AllFilled to (vol img₁)
    F₁ = filled-convert from to mt img r img₁ o D.number

    W₁ : Whole img₁
    W₁ = whole_same img img₁ D.size W

    module _ (s : Numbers ℕ) (img₂ : List ℕ) (q : Outcome (convert_call to from img₁) img₁ s img₂) where
      E : DoneAs (convert_call to from img₁) img₁ s img₂
      E = done-convert to from img₁ W₁ S₁ s img₂ q F₁

      first : img₂ ≡ img
      unfolding convert_call call asking
      first = vol-ext img₂ img (E.size ∙ D.size)
          (E.image ∙ ap (convert from) D.image ∙ there_and_back (pages img) (omega (arith, W.least)) from mf (vol img) S F (small-words img B) to mt)

  pub trip : ThereAndBack from to img
  trip = record { there = λ r img₁ o. ((D r img₁ o).number, S₁ r img₁ o, F₁ r img₁ o); back = λ r img₁ o s img₂ q. ((E r img₁ o s img₂ q).number, first r img₁ o s img₂ q) }

module _ (img : List ℕ) (B : Sixteen img) (W : Whole img) where
  -- an image that is sound by document 01's first rules
  pub old-trip : OldSound (pages img) (vol img) → ThereAndBack 0 apostrophe img
  old-trip S = trip 0 apostrophe ends-zero ends-apostrophe img B W (old-sound (pages img) (vol img) S) (old-all-filled (pages img) (vol img) S)

  -- one whose short names all end in an apostrophe and zeros; what lies between is sound by the first rules
  module _ (S : Sound (pages img) (vol img)) (F : AllFilled apostrophe (vol img)) where
    pub new-trip : ThereAndBack apostrophe 0 img
    new-trip = trip apostrophe 0 ends-apostrophe ends-zero img B W S F

    pub new-old : (r : Numbers ℕ) (img₁ : List ℕ) → Outcome (convert_call apostrophe 0 img) img r img₁ → OldSound (pages img₁) (vol img₁)
    new-old r img₁ o = let t = new-trip.there r img₁ o in sound-old (pages img₁) (vol img₁) t.1 t.2

-- ---- a second time the same way: done only if no name is short

module _ (from to : ℕ) (mark : 0 < ends to) (ne : from ≢ to) (img : List ℕ) (r : Numbers ℕ) (img₁ : List ℕ) (o : Outcome (convert_call from to img) img r img₁) (z : r.number ≡ 0) where
  pub twice : AllFilled from (vol img₁) → AllFull (vol img₁)
  twice F = both-full from to (vol img₁) ne F (filled-convert from to mark img r img₁ o z)
