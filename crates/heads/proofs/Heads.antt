-- The master page's pointers, as the code judges them. Assumes nothing.
use mathlib.Core.Path.{◌≡◌}
use mathlib.Core.Logic.{inl, inr}
use mathlib.Core.List.{List}
use mathlib.Core.Bool.{Bool}
use Prim.Native.Nat.{ℕ, ◌<◌}
use native.Mathlib.Omega.{arith}
use Rattle.book.specs.Words.{Vol, vol}
use Rattle.book.specs.Pointers.{flags, page, Zero, Inside, object_pointer, user_pointer}
use Rattle.book.specs.Trees.{root_by}
use Rattle.book.specs.Entries.{user_file, object_file}
use Rattle.book.specs.Image.{pages}
use Rattle.book.specs.Rules.{Rule2, Rule3, Rule5}
use Rattle.book.specs.Decides.{Decides}
use Rattle.page.proofs.Deciding.{decides-iff}
use Rattle.laws.specs.Count.Reach.{below-users, below-objects}
use Rattle.laws.specs.Tree.Pointer.{zero-page}
use Rattle.tree.specs.Reach.{Reach}
use Rattle.tree.proofs.Reach.{reach-same, user-root, object-root}

module _ (P : ℕ) (v : Vol) where
  -- a pointer that is all zero leads to no page
  zero-inside : (k x : ℕ) → Zero (v 0) k → Inside P (v 0) k x → ⊥
  unfolding Inside
  zero-inside k x z i = omega (arith, zero-page (v 0) k z, i.1)

  -- ---- rule 2, by the ways through the code

  pub rule2-none : (b : Bool) → Zero (v 0) user_pointer → Decides b (Zero (v 0) object_pointer) → Decides b (Rule2 P v)
  unfolding Rule2
  rule2-none b z = decides-iff b _ _ (λ o. inl (z, o)) go
    where
      go : Rule2 P v → Zero (v 0) object_pointer
      go (inl a) = a.1
      go (inr a) = absurd (zero-inside user_pointer 1 z a.0)

  pub rule2-index : (Zero (v 0) user_pointer → ⊥) → Rule2 P v → Inside P (v 0) user_pointer 1
  unfolding Rule2
  rule2-index a (inl r) = absurd (a r.0)
  rule2-index a (inr r) = r.0

  pub rule2-one : Inside P (v 0) user_pointer 1 → Inside P (v 0) object_pointer 1 → Rule2 P v
  unfolding Rule2
  rule2-one a b = inr (a, inl b)

  pub rule2-two : (b : Bool) → (Zero (v 0) user_pointer → ⊥) → Inside P (v 0) user_pointer 1 → (Inside P (v 0) object_pointer 1 → ⊥) → Decides b (Inside P (v 0) object_pointer 2) → Decides b (Rule2 P v)
  unfolding Rule2
  rule2-two b z a n = decides-iff b _ _ (λ o. inr (a, inr o)) go
    where
      go : Rule2 P v → Inside P (v 0) object_pointer 2
      go (inl r) = absurd (z r.0)
      go (inr (r, inl o)) = absurd (n o)
      go (inr (r, inr o)) = o

  -- the user index is a page of the image
  pub users-inside : Rule2 P v → 0 < P → page (v 0) user_pointer < P
  unfolding Rule2 Inside
  users-inside (inl z) h = omega (arith, zero-page (v 0) user_pointer z.0)
  users-inside (inr r) h = r.0.2

  pub objects-inside : Rule2 P v → 0 < P → page (v 0) object_pointer < P
  unfolding Rule2 Inside
  objects-inside (inl z) h = omega (arith, zero-page (v 0) object_pointer z.1)
  objects-inside (inr (r, inl o)) h = o.2
  objects-inside (inr (r, inr o)) h = o.2

-- ---- the user file and the object file can be read

module _ (img : List ℕ) (h : 0 < pages img) where
  pub users-reach : Rule2 (pages img) (vol img) → Rule3 (pages img) (vol img) → Reach img (user_file (vol img))
  users-reach a b = record { some = h; below = below-users (pages img) (vol img) a b }

  pub objects-reach : Rule2 (pages img) (vol img) → Rule5 (pages img) (vol img) → Reach img (object_file (vol img))
  objects-reach a b = record { some = h; below = below-objects (pages img) (vol img) a b }

  -- by the flags x and the page t of their pointers
  pub users-reached : Rule2 (pages img) (vol img) → Rule3 (pages img) (vol img) → (x t : ℕ) → x ≡ flags (vol img 0) user_pointer → t ≡ page (vol img 0) user_pointer → Reach img (root_by x t 0)
  unfolding user_file
  users-reached a b x t e f = reach-same _ _ _ (user-root (vol img) x t e f) (users-reach a b)

  pub objects-reached : Rule2 (pages img) (vol img) → Rule5 (pages img) (vol img) → (x t : ℕ) → x ≡ flags (vol img 0) object_pointer → t ≡ page (vol img 0) object_pointer → Reach img (root_by x t 0)
  unfolding object_file
  objects-reached a b x t e f = reach-same _ _ _ (object-root (vol img) x t e f) (objects-reach a b)
