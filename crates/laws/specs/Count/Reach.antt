-- What the rules say of each tree by itself: all its pages are below P (Within). Assumes nothing.
use Rattle.std.specs.Prelude.{◌≡◌, ◌⊎◌}
use Rattle.std.proofs.Math.Path.{refl, subst}
use Rattle.std.proofs.Common.{sym, eq-zero-or-pos, arith}
use Rattle.std.proofs.Math.Logic.{inl, inr}
use Prim.Native.Nat.{ℕ, zero, suc, ◌+◌, ◌*◌, ◌≤◌, ◌<◌, zero-le}
use Rattle.book.specs.Bits.{bit_file}
use Rattle.book.specs.Entries.{user_file, object_file, object, used, user}
use Rattle.book.specs.Files.{file_at, Shape, FileShape}
use Rattle.book.specs.Pointers.{flags, page, Inside, object_pointer, indexed, user_pointer}
use Rattle.book.specs.Rules.{Rule1, Rule2, Rule3, Rule5, Rule5By, Rule7}
use Rattle.book.specs.Trees.{Root, tree, run, Below, root_at, root_by}
use Rattle.book.specs.Words.{Vol}
use Rattle.laws.specs.Tree.Pointer.{root-0, root-1, root-2, zero_flags, zero-page, file-unused, file-used}
use Rattle.laws.specs.Tree.Weigh.{BelowR}

-- every tree of the volume is below P
pub record Within (P : ℕ) (v : Vol) : Type 0 where
  pub bits : BelowR v P (bit_file P v)
  pub users : BelowR v P (user_file v)
  pub objs : BelowR v P (object_file v)
  pub files : (u f : ℕ) → u < 256 → f < 256 → BelowR v P (file_at v (256 * u + f))

module _ (v : Vol) (P : ℕ) (r : Root) where
  below-run : (s n : ℕ) → r ≡ run s n → s + n ≤ P → BelowR v P r
  unfolding BelowR
  below-run s n e h = subst (λ (x : Root). BelowR v P x) (sym e) h

  below-tree : (l t : ℕ) → r ≡ tree l t → Below v P l t → BelowR v P r
  unfolding BelowR
  below-tree l t e h = subst (λ (x : Root). BelowR v P x) (sym e) h

module _ (P : ℕ) (v : Vol) where
  pub below-bits : Rule1 P v → BelowR v P (bit_file P v)
  unfolding bit_file
  below-bits r = below-run v P _ _ _ refl r.fits

  pub below-users : Rule2 P v → Rule3 P v → BelowR v P (user_file v)
  unfolding Rule2 Rule3 user_file Inside Below
  below-users (inl z) r = below-run v P _ _ _ (root-0 (v 0) user_pointer 0 (zero_flags (v 0) user_pointer z.0)) (omega (arith, zero-page (v 0) user_pointer z.0))
  below-users (inr i) r = below-tree v P _ 1 _ (root-1 (v 0) user_pointer 0 i.0.0) (i.0.2, λ k h. (r k h).0)

  pub below-objects : Rule2 P v → Rule5 P v → BelowR v P (object_file v)
  unfolding Rule2 Rule5 Rule5By object_file Inside
  below-objects (inl z) r = below-run v P _ _ _ (root-0 (v 0) object_pointer 0 (zero_flags (v 0) object_pointer z.1)) (omega (arith, zero-page (v 0) object_pointer z.1))
  below-objects (inr i) r = go i.1
    where
      go : (Inside P (v 0) object_pointer 1 ⊎ Inside P (v 0) object_pointer 2) → BelowR v P (root_at (v 0) object_pointer 0)
      go (inl a) = below-tree v P _ 1 _ (root-1 (v 0) object_pointer 0 a.0) (subst (λ (x : ℕ). Rule5By P v x (page (v 0) object_pointer)) a.0 r).0
      go (inr a) = below-tree v P _ 2 _ (root-2 (v 0) object_pointer 0 a.0) (subst (λ (x : ℕ). Rule5By P v x (page (v 0) object_pointer)) a.0 r).0

  -- a shape's pages, by the flags x of its pointer, with page t and n pages
  pub below-shape : (x t n : ℕ) → Shape P v x t n → BelowR v P (root_by x t n)
  unfolding Shape root_by BelowR
  below-shape zero t n (inl a) = omega (arith, a)
  below-shape zero t n (inr a) = a.2
  below-shape (suc zero) t n a = a.3
  below-shape (suc (suc zero)) t n a = a.3
  below-shape (suc (suc (suc x))) t n a = absurd a

  pub below-file : (e : ℕ) → 0 < used (object v e) → FileShape P v e → BelowR v P (file_at v e)
  unfolding FileShape root_at
  below-file e h s = subst (λ (r : Root). BelowR v P r) (sym (file-used v e h)) (below-shape _ _ _ s.0)

  pub below-unused : (e : ℕ) → used (object v e) ≡ 0 → BelowR v P (file_at v e)
  below-unused e h = below-run v P _ 0 0 (file-unused v e h) zero-le

  pub below-files : Rule7 P v → (e : ℕ) → e < 65536 → BelowR v P (file_at v e)
  unfolding Rule7
  below-files r e h = elim (eq-zero-or-pos (used (object v e))) [
    | inl z ↦ below-unused e z
    | inr q ↦ below-file e q (r e h q)
  ]

  -- all of them together
  pub rules-within : Rule1 P v → Rule2 P v → Rule3 P v → Rule5 P v → Rule7 P v → Within P v
  rules-within a b c d e = record { bits = below-bits a; users = below-users b c; objs = below-objects b d; files = λ u f h i. below-files e (256 * u + f) (omega arith) }

pub high-unused : (P : ℕ) (v : Vol) → Rule5 P v → flags (v 0) object_pointer ≡ indexed → (u : ℕ) → 63 < u → u < 256 → used (user v u) ≡ 0
unfolding Rule5 Rule5By
high-unused P v r q u i h = (subst (λ (x : ℕ). Rule5By P v x (page (v 0) object_pointer)) q r).1 u i h
