-- One bit against one mark. Assumes nothing.
use mathlib.Core.Path.{◌≡◌, ap, ◌∙◌}
use mathlib.Core.Logic.{inl, inr}
use mathlib.Core.List.{List}
use Prim.Native.Nat.{ℕ, ◌+◌, ◌<◌}
use native.Mathlib.Nat.{eq-zero-or-pos}
use native.Mathlib.Omega.{arith}
use Rattle.book.specs.Words.{vol}
use Rattle.book.specs.Bits.{bit, bit_page, bit_page_of, bit_word}
use Rattle.book.specs.Holders.{holders}
use Rattle.book.specs.Image.{pages}
use Rattle.laws.specs.Count.Good.{bit_le}
use Rattle.bits.proofs.Places.{bit-page}
use Rattle.bits.specs.Marks.{marked}
use Rattle.bits.proofs.Marked.{marked-le}
use Rattle.book.specs.declared.Place.{Place}
use Rattle.book.specs.Spots.{at, AllHold, First}
use Rattle.book.specs.Places.{bit_row}
use Rattle.places.specs.Found.{Reserved}

module _ (img : List ℕ) (total b : ℕ) (m : List ℕ) (d : Reserved img total b m) (p : ℕ) (h : p < pages img) where
  pub bit-right : bit (pages img) (vol img) p ≡ marked m p → AllHold (bit_row (pages img) (vol img) p)
  unfolding AllHold
  bit-right e = ((λ o. omega (arith, o, e, d.held p h)), (λ q. omega (arith, q, e, d.held p h, marked-le m p)))

  bit-same : AllHold (bit_row (pages img) (vol img) p) → bit (pages img) (vol img) p ≡ marked m p
  unfolding AllHold
  bit-same r = elim (eq-zero-or-pos (holders (pages img) (vol img) p)) [
    | inl z ↦ let n : bit (pages img) (vol img) p ≡ 1 → ⊥ = λ o. omega (arith, r.0 o, z) in omega (arith, z, d.held p h, bit_le (pages img) (vol img) p)
    | inr q ↦ omega (arith, q, r.1 q, d.held p h, marked-le m p)
  ]

  pub bit-wrong : (q : Place) → q ≡ at (b + bit_page_of p) (bit_word p) → (bit (pages img) (vol img) p ≡ marked m p → ⊥) → First (bit_row (pages img) (vol img) p) q
  unfolding First AllHold
  bit-wrong q e n = (
    e ∙ ap (λ (x : ℕ). at x (bit_word p)) (let w : b + bit_page_of p ≡ bit_page (pages img) (vol img) p = omega (arith, bit-page (pages img) (vol img) b d.bits p h) in w),
    λ a. n (bit-same a),
  )
