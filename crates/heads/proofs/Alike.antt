-- Twins, as the code finds them on their pages. Assumes nothing.
use mathlib.Core.Path.{◌≡◌, sym, ap, subst}
use mathlib.Core.Bool.{Bool}
use Prim.Native.Nat.{ℕ, ◌+◌, ◌/◌, ◌%◌, ◌<◌}
use native.Mathlib.Nat.{not-suc-le-zero}
use native.Mathlib.Omega.{arith}
use Rattle.book.specs.Words.{Words, Vol}
use Rattle.book.specs.Trees.{Root, page_at}
use Rattle.book.specs.Entries.{Table, entry, used}
use Rattle.book.specs.Names.{SameName}
use Rattle.book.specs.Decides.{Decides}
use Rattle.laws.specs.File.Stored.{stored-words}
use Rattle.page.proofs.Deciding.{decides-iff}
use Rattle.tree.specs.Reach.{entry_in}
use Rattle.heads.specs.Span.{Span}
use Rattle.heads.specs.Twins.{SameTitle, Twins, Fresh}
use Rattle.heads.proofs.Pages.{entry_in_lem, entry-on, absent-unused}

-- entry y on page q of the file at r is used where its page shows it so
pub used-on : (v : Vol) (r : Root) (q y : ℕ) → q ≡ page_at v r (y / 32) → used (entry_in v q y) ≡ used (entry v r y)
used-on v r q y b = ap used (entry_in_lem v r q y b)

-- entry x, whose page is p
module _ (v : Vol) (r : Root) (n x y p : ℕ) (a : p ≡ page_at v r (x / 32)) where
  pub twin-absent : p ≡ 0 → Twins (entry v r) n x y → ⊥
  twin-absent z t = omega (arith, t.first, absent-unused v p x _ (entry_in_lem v r p x a) z)

  pub twin-used : Twins (entry v r) n x y → 0 < used (entry_in v p x)
  twin-used t = omega (arith, t.first, used-on v r p x a)

  pub twin-by : (q : ℕ) (b : Bool) → q ≡ page_at v r (y / 32) → 0 < used (entry_in v p x) → 0 < used (entry v r y) → Decides b (SameTitle n (entry_in v p x) (entry_in v q y)) → Decides b (Twins (entry v r) n x y)
  twin-by q b e u w =
      let i = entry_in_lem v r p x a in let j = entry_in_lem v r q y e in
      decides-iff b _ _
      (λ s. record { first = omega (arith, used-on v r p x a); second = w; title = subst (SameTitle n (entry v r x)) j (subst (λ (g : Words). SameTitle n g (entry_in v q y)) i s) })
      (λ t. subst (λ (g : Words). SameTitle n g (entry_in v q y)) (sym i) (subst (SameTitle n (entry v r x)) (sym j) t.title))

-- users have no type to tell them apart
pub title-none : (w x : Words) → SameName w x → SameTitle 0 w x
title-none w x s = (s, stored-words 0 w x 9 9 (λ i h. absurd (not-suc-le-zero h)))

-- an unused entry has no twin
pub fresh-unused : (E : Table) (n base y : ℕ) → (0 < used (E y) → ⊥) → Fresh E n base y
unfolding Span
fresh-unused E n base y u x h l t = u t.second

pub page-fresh : (v : Vol) (r : Root) (n base q first : ℕ) → first % 32 ≡ 0 → q ≡ page_at v r (first / 32) → q ≡ 0 → Span (Fresh (entry v r) n base) first (first + 32)
unfolding Span
page-fresh v r n base q first f e z y h l = fresh-unused (entry v r) n base y (λ u. omega (arith, absent-unused v q y _ (entry-on v q first y f h l r e) z))
