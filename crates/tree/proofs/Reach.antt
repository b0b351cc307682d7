-- Roots whose pages lie in the image: what code knows of them after it has read flags, page and count. Assumes nothing.
use mathlib.Core.Path.{◌≡◌, refl, sym, ap, ap₂, ◌∙◌, subst}
use mathlib.Core.List.{List}
use Prim.Native.Nat.{ℕ, ◌+◌, ◌<◌}
use native.Mathlib.Omega.{arith}
use Rattle.book.specs.Words.{Vol, vol}
use Rattle.book.specs.Pointers.{flags, page, user_pointer, object_pointer}
use Rattle.book.specs.Trees.{Root, run, root_at, root_by, page_at}
use Rattle.book.specs.Entries.{user_file, object_file}
use Rattle.book.specs.Image.{pages}
use Rattle.laws.specs.Frame.Roots.{page_at-below, upto-out}
use Rattle.tree.specs.Reach.{Reach}

pub reach_page : (img : List ℕ) (r : Root) → Reach img r → (n : ℕ) → page_at (vol img) r n < pages img
reach_page img r d n = page_at-below (vol img) (pages img) d.some r d.below n

-- a page of a root, as code has read it
pub reached : (img : List ℕ) (r : Root) → Reach img r → (n x : ℕ) → x ≡ page_at (vol img) r n → (x ≡ page_at (vol img) r n) × (x < pages img)
reached img r d n x e = (e, omega (arith, e, reach_page img r d n))

-- an empty run has no pages
pub none-page : (v : Vol) (n : ℕ) → page_at v (run 0 0) n ≡ 0
unfolding page_at
none-page v n = upto-out n 0 (0 + n) (omega arith)

pub reach-same : (img : List ℕ) (r s : Root) → r ≡ s → Reach img r → Reach img s
reach-same img r s e d = subst (λ (x : Root). Reach img x) e d

-- the root of a pointer, from its flags x, page t and count m
pub root-read : (w : ℕ → ℕ) (k n x t m : ℕ) → x ≡ flags w k → t ≡ page w k → m ≡ n → root_at w k n ≡ root_by x t m
unfolding root_at
root-read w k n x t m a b c = sym (ap₂ (λ (y z : ℕ). root_by y z m) a b ∙ ap (root_by (flags w k) (page w k)) c)

-- its page at position n, which code has as m
pub page-read : (v : Vol) (r s : Root) (m n x : ℕ) → r ≡ s → m ≡ n → x ≡ page_at v s m → x ≡ page_at v r n
page-read v r s m n x e d h = h ∙ ap₂ (page_at v) (sym e) d

-- the user file and the object file, from the flags x and the page t of their pointers
pub user-root : (v : Vol) (x t : ℕ) → x ≡ flags (v 0) user_pointer → t ≡ page (v 0) user_pointer → user_file v ≡ root_by x t 0
unfolding user_file
user-root v x t a b = root-read (v 0) user_pointer 0 x t 0 a b refl

pub object-root : (v : Vol) (x t : ℕ) → x ≡ flags (v 0) object_pointer → t ≡ page (v 0) object_pointer → object_file v ≡ root_by x t 0
unfolding object_file
object-root v x t a b = root-read (v 0) object_pointer 0 x t 0 a b refl
