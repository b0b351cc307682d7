-- A page taken of an image that has the pages and the words of a volume. Assumes nothing.
use mathlib.Core.Path.{◌≡◌, sym, ap, ap₂, ◌∙◌, subst₂}
use Prim.Native.Nat.{ℕ}
use Rattle.book.specs.Words.{Vol}
use Rattle.book.specs.Bits.{lowest_free, claim}
use Rattle.bits.specs.Taken.{CanTake, Took}

module _ (P Q : ℕ) (v x : Vol) (q : Q ≡ P) (e : x ≡ v) where
  pub can-take-on : (b : ℕ) → CanTake P v b → CanTake Q x b
  can-take-on b c = subst₂ (λ (N : ℕ) (z : Vol). CanTake N z b) (sym q) (sym e) c

  pub took-on : (d : ℕ) (y : Vol) → Took Q x d y → (d ≡ lowest_free P v) × (y ≡ claim P v (lowest_free P v))
  took-on d y t = let i : d ≡ lowest_free P v = t.0 ∙ ap₂ lowest_free q e in
      (i, t.2 ∙ ap₂ (λ (N : ℕ) (z : Vol). claim N z d) q e ∙ ap (claim P v) i)
