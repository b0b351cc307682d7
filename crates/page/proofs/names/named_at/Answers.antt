-- `page::names::named_at` meets its contract. Assumes nothing.
use mathlib.Core.Path.{◌≡◌, sym, ap, ◌∙◌}
use mathlib.Core.List.{List}
use Prim.Native.Nat.{ℕ, ◌<◌}
use native.Mathlib.Omega.{arith}
use lib.ListN.{length, get_or}
use lib.Seq.{ext_get_or}
use Rattle.book.specs.Words.{Words, vol}
use Rattle.book.specs.Names.{byte_at, end_of, stored}
use Rattle.laws.specs.File.Stored.{end_is, stored-length, stored_at}
use Rattle.page.proofs.names.named_at.Goals as goal

-- a name that ends at l
module _ (n : ℕ) (w : Words) (k l : ℕ) (e : l ≡ end_of n w k) (s : List ℕ) where
  other_length : (l ≡ length s → ⊥) → stored n w k ≡ s → ⊥
  other_length f q = f (e ∙ sym (stored-length n w k) ∙ ap (λ (t : List ℕ). length t) q)

  other_byte : (i b : ℕ) → i < l → b ≡ byte_at w k i → (b ≡ get_or s i 0 → ⊥) → stored n w k ≡ s → ⊥
  other_byte i b h c f q = f (c ∙ sym (stored_at n w k i (omega (arith, e))) ∙ ap (λ (t : List ℕ). get_or t i 0) q)

  all-bytes : l ≡ length s → ((j : ℕ) → j < l → byte_at w k j ≡ get_or s j 0) → stored n w k ≡ s
  all-bytes h f = ext_get_or 0 (stored n w k) s (stored-length n w k ∙ sym e ∙ h) (λ j m. stored_at n w k j (omega (arith, stored-length n w k)) ∙ f j (omega (arith, e, stored-length n w k)))

pub returns-then-l-s : goal.returns-then-l-s
returns-then-l-s c = other_length c.args.n (vol c.args.img.now c.args.p) c.args.k c.end_at-l.result c.end_at-l.ensures c.args.s.now c.if-l-s.true

pub byte_at-requires : goal.byte_at-requires
byte_at-requires c = omega (arith, c.end_at-l.ensures, (end_is c.args.n (vol c.args.img.now c.args.p) c.args.k).most)

pub returns-then-byte_at-b : goal.returns-then-byte_at-b
returns-then-byte_at-b c = other_byte c.args.n (vol c.args.img.now c.args.p) c.args.k c.end_at-l.result c.end_at-l.ensures c.args.s.now c.loop-i.i c.byte_at.result (omega arith) c.byte_at.ensures c.if-byte_at-b.true

pub returns : goal.returns
returns c = all-bytes c.args.n (vol c.args.img.now c.args.p) c.args.k c.end_at-l.result c.end_at-l.ensures c.args.s.now c.if-l-s.false (λ j h. c.loop-i.invariant j (omega arith))
