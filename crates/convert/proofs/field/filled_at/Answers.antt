-- `convert::field::filled_at` meets its contract. Assumes nothing.
use mathlib.Core.Path.{◌≡◌, sym, ap, ◌∙◌}
use mathlib.Core.List.{[], ◌∷◌}
use Prim.Native.Nat.{ℕ, ◌-◌, ◌≤◌, ◌<◌}
use native.Mathlib.Omega.{arith}
use lib.ListN.{get_or}
use Rattle.book.specs.Words.{Words, vol}
use Rattle.book.specs.Names.{byte_at, end_of}
use Rattle.book.specs.Convert.{Filled}
use Rattle.convert.proofs.field.filled_at.Goals as goal

-- a name that ends at l
module _ (c n : ℕ) (w : Words) (k l : ℕ) (e : l ≡ end_of n w k) where
  all-bytes : ((j : ℕ) → l ≤ j → j < n → byte_at w k j ≡ get_or (c ∷ []) (j - l) 0) → Filled c n w k
  unfolding Filled
  all-bytes f i h m = f i (omega (arith, e)) m ∙ ap (λ (j : ℕ). get_or (c ∷ []) (i - j) 0) e

  other_byte : (i b x : ℕ) → l ≤ i → i < n → b ≡ byte_at w k i → x ≡ get_or (c ∷ []) (i - l) 0 → (b ≡ x → ⊥) → Filled c n w k → ⊥
  unfolding Filled
  other_byte i b x h m s t f F = f (s ∙ F i (omega (arith, e)) m ∙ ap (λ (j : ℕ). get_or (c ∷ []) (i - j) 0) (sym e) ∙ sym t)

pub returns-then-byte_at-behind : goal.returns-then-byte_at-behind
returns-then-byte_at-behind c = other_byte c.args.mark c.args.n (vol c.args.img.now c.args.p) c.args.k c.end_at-l.result c.end_at-l.ensures c.loop-i.i c.byte_at.result c.behind.result (omega arith) (omega arith) c.byte_at.ensures c.behind.ensures c.if-byte_at-behind.true

pub returns : goal.returns
returns c = all-bytes c.args.mark c.args.n (vol c.args.img.now c.args.p) c.args.k c.end_at-l.result c.end_at-l.ensures (λ j h m. c.loop-i.invariant j h (omega arith))
