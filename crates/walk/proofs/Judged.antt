-- What marking all that is held says of rules 8 and 9, and of the pages visited. Assumes nothing.
use mathlib.Core.Path.{◌≡◌, sym, ◌∙◌, subst}
use mathlib.Core.Logic.{inl, inr}
use mathlib.Core.List.{List}
use Prim.Native.Nat.{ℕ, ◌<◌}
use native.Mathlib.Nat.{eq-zero-or-pos}
use native.Mathlib.Omega.{arith}
use Rattle.std.specs.Prelude.{Option, Some, None}
use Rattle.book.specs.Words.{Vol}
use Rattle.book.specs.Bits.{bit}
use Rattle.book.specs.Holders.{holders, visits}
use Rattle.book.specs.Rules.{Rule8, Rule9}
use Rattle.laws.specs.Count.Good.{bit_le}
use Rattle.laws.specs.Count.Pages.{visits-all}
use Rattle.laws.specs.Count.Reach.{Within}
use Rattle.bits.specs.Marks.{marked}
use Rattle.walk.specs.Held.{HeldOn, Held}
use Rattle.bits.proofs.Marked.{marked-le}

-- after a look at the answer
module _ (P : ℕ) (v : Vol) (m : List ℕ) (r : Option ℕ) (k : Held P v m r) where
  pub held_on : (x : ℕ) → r ≡ Some x → HeldOn P v m x
  held_on x e = subst (λ (w : Option ℕ). Held P v m w) e k

  pub held-met : r ≡ None → Held P v m None
  held-met e = subst (λ (w : Option ℕ). Held P v m w) e k

-- a page that was met is held twice
pub met-rule8 : (P : ℕ) (v : Vol) (m : List ℕ) → Held P v m None → Rule8 P v → ⊥
unfolding Rule8
met-rule8 P v m k r = omega (arith, k.2, r k.0 k.1)

module _ (P : ℕ) (v : Vol) (m : List ℕ) (x : ℕ) (k : HeldOn P v m x) where
  pub held-rule8 : Rule8 P v
  unfolding Rule8
  held-rule8 p h = omega (arith, k.held p h, marked-le m p)

  -- the walk's counter is the pages visited
  pub held-visits : 0 < P → Within P v → x ≡ visits P v
  held-visits h w = k.count ∙ sym (visits-all P v h held-rule8 w)

  -- rule 9 asks that bits and marks agree
  pub same-rule9 : ((p : ℕ) → p < P → bit P v p ≡ marked m p) → Rule9 P v
  unfolding Rule9
  same-rule9 e p h = ((λ b. omega (arith, b, e p h, k.held p h)), (λ q. omega (arith, q, e p h, k.held p h, marked-le m p)))

  pub rule9-same : Rule9 P v → (p : ℕ) → p < P → bit P v p ≡ marked m p
  unfolding Rule9
  rule9-same r p h = elim (eq-zero-or-pos (holders P v p)) [
    | inl z ↦ let n : bit P v p ≡ 1 → ⊥ = λ b. omega (arith, (r p h).0 b, z) in omega (arith, z, k.held p h, bit_le P v p)
    | inr q ↦ omega (arith, q, (r p h).1 q, k.held p h, marked-le m p)
  ]
