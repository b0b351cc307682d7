-- Which positions of the volume's trees are filled, as the rules say. Assumes nothing.
use mathlib.Core.Path.{◌≡◌, sym, ap, ◌∙◌, subst, subst₂}
use mathlib.Core.List.{List}
use mathlib.Core.Logic.{◌⊎◌, inl, inr}
use Prim.Native.Nat.{ℕ, zero, suc, ◌≤◌, ◌<◌}
use native.Mathlib.Nat.{eq-zero-or-pos}
use native.Mathlib.Decide.{dec_lt, ℕ_discrete}
use native.Mathlib.Omega.{arith}
use Rattle.book.specs.Words.{Vol, vol}
use Rattle.book.specs.Pointers.{page, slot, Inside, object_pointer, user_pointer}
use Rattle.book.specs.Trees.{Root, tree, run, root_at, root_by, page_at, Fill}
use Rattle.book.specs.Entries.{object, used, page_count, user_file, object_file, object_pages}
use Rattle.book.specs.Files.{Shape, FileShape, file_at}
use Rattle.book.specs.Rules.{Rule2, Rule3, Rule5, Rule5By, Rule7}
use Rattle.laws.specs.Tree.Pointer.{file-unused, file-used, root-0, root-1, root-2, zero_flags}
use Rattle.laws.specs.Tree.Positions.{root-one}
use Rattle.laws.specs.Tree.Slot.{slot-zero}
use Rattle.tree.specs.Ends.{Ends}
use Rattle.tree.specs.Blocks.{share}
use Rattle.walk.specs.Short.{Short, ShortR, Shorts}

pub short-same : (v : Vol) (r s : Root) (n : ℕ) → r ≡ s → ShortR v r n → ShortR v s n
short-same v r s n e d = subst (λ (x : Root). ShortR v x n) e d

-- a run has no blocks
pub short-run : (v : Vol) (r : Root) (s m n : ℕ) → r ≡ run s m → ShortR v r n
unfolding ShortR
short-run v r s m n e = short-same v (run s m) r n (sym e) tt

short-tree : (v : Vol) (r : Root) (l t n : ℕ) → r ≡ tree l t → Short v l t n → ShortR v r n
unfolding ShortR
short-tree v r l t n e d = short-same v (tree l t) r n (sym e) d

-- ---- a tree that has positions 0 to n - 1 has no more

fill_none : (v : Vol) (l t n : ℕ) → Fill v l t n → n ≡ 0 → t ≡ 0
unfolding Fill
fill_none v zero t n f z = f.1 z
fill_none v (suc l) t n f z = f.1 z

fill-short : (v : Vol) (l t n : ℕ) → Fill v l t n → Short v l t n
unfolding Fill Short
fill-short v zero t n f = tt
fill-short v (suc l) t n f = λ k i. ((λ h. fill_none v l (slot v t k) (share l n k) (f.2 k i) (omega arith)), fill-short v l (slot v t k) (share l n k) (f.2 k i))

module _ (P : ℕ) (v : Vol) where
  -- a file's positions are its pages
  short-shape : (x t n : ℕ) → Shape P v x t n → ShortR v (root_by x t n) n
  unfolding Shape root_by ShortR
  short-shape zero t n a = tt
  short-shape (suc zero) t n a = fill-short v 1 t n a.2
  short-shape (suc (suc zero)) t n a = fill-short v 2 t n a.2
  short-shape (suc (suc (suc x))) t n a = absurd a

  short-file : (e : ℕ) → 0 < used (object v e) → FileShape P v e → ShortR v (file_at v e) (page_count (object v e))
  unfolding FileShape root_at
  short-file e h s = short-same v _ _ _ (sym (file-used v e h)) (short-shape _ _ _ s.0)

  pub short-files : Rule7 P v → (e : ℕ) → e < 65536 → ShortR v (file_at v e) (page_count (object v e))
  unfolding Rule7
  short-files r e h = elim (eq-zero-or-pos (used (object v e))) [
    | inl z ↦ short-run v _ 0 0 _ (file-unused v e z)
    | inr q ↦ short-file e q (r e h q)
  ]

  -- the user file has 8
  pub short-users : Rule2 P v → Rule3 P v → ShortR v (user_file v) 8
  unfolding Rule2 Rule3 user_file Inside Short
  short-users (inl z) r = short-run v _ _ _ 8 (root-0 (v 0) user_pointer 0 (zero_flags (v 0) user_pointer z.0))
  short-users (inr i) r = short-tree v _ 1 _ 8 (root-1 (v 0) user_pointer 0 i.0.0) (λ k h. ((λ past. (r k h).1 (omega (arith, past))), tt))

  -- the object file has 2,048
  four : (t : ℕ) → ((i : ℕ) → 4 ≤ i → i < 512 → slot v t i ≡ 0) → Short v 2 t object_pages
  unfolding Short
  four t z = λ k i. (
    (λ past. z k (omega (arith, past)) i),
    λ j h. (
      (λ past. elim (dec_lt k 4) [
        | yes lt ↦ absurd (let no : ⊥ = omega (arith, past, lt, h) in no)
        | no ge ↦ ap (λ (x : ℕ). slot v x j) (z k (omega (arith, ge)) i) ∙ slot-zero v j
      ]),
      tt,
    ),
  )

  pub short-objects : Rule2 P v → Rule5 P v → ShortR v (object_file v) object_pages
  unfolding Rule2 Rule5 Rule5By object_file Inside Short
  short-objects (inl z) r = short-run v _ _ _ object_pages (root-0 (v 0) object_pointer 0 (zero_flags (v 0) object_pointer z.1))
  short-objects (inr i) r = go i.1
    where
      go : (Inside P (v 0) object_pointer 1 ⊎ Inside P (v 0) object_pointer 2) → ShortR v (root_at (v 0) object_pointer 0) object_pages
      go (inl a) = short-tree v _ 1 _ object_pages (root-1 (v 0) object_pointer 0 a.0) (λ k h. ((λ past. absurd (let no : ⊥ = omega (arith, past, h) in no)), tt))
      go (inr a) = short-tree v _ 2 _ object_pages (root-2 (v 0) object_pointer 0 a.0) (four _ (subst (λ (x : ℕ). Rule5By P v x (page (v 0) object_pointer)) a.0 r).1)

  -- all of them together
  pub rules-short : Rule2 P v → Rule3 P v → Rule5 P v → Rule7 P v → Shorts v
  rules-short a b c d = record { users = short-users a b; objects = short-objects a c; files = short-files d }

-- an indexed object file has no slot filled from its end on
module _ (img : List ℕ) (x t ends : ℕ) (e : object_file (vol img) ≡ root_by x t 0) (d : Ends img ends) where
  one : x ≡ 1 → Short (vol img) 1 t ends
  unfolding Short
  one q = λ k h. ((λ past. sym (root-one (vol img) x t 0 k q h) ∙ ap (λ (r : Root). page_at (vol img) r k) (sym e) ∙ d.none k (omega (arith, past)) (omega arith)), tt)

  pub objects-short : ShortR (vol img) (object_file (vol img)) object_pages → (n : ℕ) → (x ≡ 1 → n ≡ ends) → ((x ≡ 1 → ⊥) → n ≡ object_pages) → ShortR (vol img) (root_by x t 0) n
  unfolding root_by
  objects-short s n a b = elim (ℕ_discrete x 1) [
    | yes q ↦ short-tree (vol img) (root_by x t 0) 1 t n (ap (λ (y : ℕ). root_by y t 0) q) (subst (Short (vol img) 1 t) (sym (a q)) (one q))
    | no q ↦ subst₂ (ShortR (vol img)) e (sym (b q)) s
  ]

-- the tree of a root, by its flags x
module _ (v : Vol) (x t n m : ℕ) where
  pub root-short : ShortR v (root_by x t n) m → (l : ℕ) → x ≡ suc l → l < 2 → Short v (suc l) t m
  unfolding root_by ShortR
  root-short s zero e h = subst (λ (y : ℕ). ShortR v (root_by y t n) m) e s
  root-short s (suc zero) e h = subst (λ (y : ℕ). ShortR v (root_by y t n) m) e s
  root-short s (suc (suc l)) e h = absurd (let z : ⊥ = omega arith in z)
