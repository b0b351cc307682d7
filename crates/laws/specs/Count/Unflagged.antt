-- Flags: a sound volume has none in a pointer inside a block, and never both together. Assumes nothing.
use Rattle.std.specs.Prelude.{◌≡◌, ℕ, zero, suc, ◌*◌, ◌≤◌, ◌<◌}
use Rattle.std.proofs.Common.{subst, inl, inr, eq-zero-or-pos, arith}
use Rattle.book.specs.Image.{most_pages}
use Rattle.book.specs.Words.{Words, Vol, two, word}
use Rattle.book.specs.Pointers.{flags, slot, Inside, wrong, user_pointer, object_pointer}
use Rattle.book.specs.Trees.{Root, tree, run, Below}
use Rattle.book.specs.Entries.{object, user_file, object_file, used, file_entry, file_pointer}
use Rattle.book.specs.Files.{file_at, Shape, FileShape}
use Rattle.book.specs.Rules.{Rule2, Rule7, Sound}
use Rattle.laws.specs.Count.Good.{most, sound-within}
use Rattle.laws.specs.Tree.Pointer.{zero_flags}
use Rattle.laws.specs.Tree.Weigh.{BelowR}

-- both flags are an error: in the master page, and in a file's entry
pub both-master : (P : ℕ) (v : Vol) → Rule2 P v → (flags (v 0) user_pointer ≡ wrong → ⊥) × (flags (v 0) object_pointer ≡ wrong → ⊥)
unfolding Rule2 Inside
both-master P v (inl z) =
    ((λ e. let r : ⊥ = omega (arith, e, zero_flags (v 0) user_pointer z.0) in r), (λ e. let r : ⊥ = omega (arith, e, zero_flags (v 0) object_pointer z.1) in r))
both-master P v (inr (u, inl o)) = ((λ e. let r : ⊥ = omega (arith, e, u.0) in r), (λ e. let r : ⊥ = omega (arith, e, o.0) in r))
both-master P v (inr (u, inr o)) = ((λ e. let r : ⊥ = omega (arith, e, u.0) in r), (λ e. let r : ⊥ = omega (arith, e, o.0) in r))

both-shape : (P : ℕ) (v : Vol) (x t n : ℕ) → x ≡ wrong → Shape P v x t n → ⊥
unfolding Shape
both-shape P v x t n e s = subst (λ (y : ℕ). Shape P v y t n) e s

pub both-file : (P : ℕ) (v : Vol) → Rule7 P v → (e : ℕ) → e < 65536 → 0 < used (object v e) → flags (object v e) file_pointer ≡ wrong → ⊥
unfolding Rule7 FileShape
both-file P v r e h u q = both-shape P v _ _ _ q (r e h u).0

-- a pointer with a flag is a number not below P
pub flagged-high : (w : Words) (k P : ℕ) → P ≤ most_pages → 0 < flags w k → P ≤ two w k
unfolding flags two
flagged-high w k P h f = omega arith

-- no pointer inside a block of the tree at t, or of the tree or run r, has a flag
unfoldable pub NoFlags : Vol → ℕ → ℕ → Type 0
NoFlags v zero t = Unit {0}
NoFlags v (suc l) t = (k : ℕ) → k < 512 → (flags (word v t) (2 * k) ≡ 0) × NoFlags v l (slot v t k)

unfoldable pub NoFlagsIn : Vol → Root → Type 0
NoFlagsIn v (tree l t) = NoFlags v l t
NoFlagsIn v (run s n) = Unit {0}

top_below : (v : Vol) (P l t : ℕ) → Below v P l t → t < P
unfolding Below
top_below v P zero t b = b
top_below v P (suc l) t b = b.0

slot-unflagged : (v : Vol) (P t k : ℕ) → P ≤ most_pages → slot v t k < P → flags (word v t) (2 * k) ≡ 0
unfolding slot
slot-unflagged v P t k h b = elim (eq-zero-or-pos (flags (word v t) (2 * k))) [
  | inl z ↦ z
  | inr q ↦ let r : ⊥ = omega (arith, b, flagged-high (word v t) (2 * k) P h q) in absurd r
]

tree-unflagged : (v : Vol) (P : ℕ) → P ≤ most_pages → (l t : ℕ) → Below v P l t → NoFlags v l t
unfolding Below NoFlags
tree-unflagged v P h zero t b = tt
tree-unflagged v P h (suc l) t b = λ k i. (slot-unflagged v P t k h (top_below v P l (slot v t k) (b.1 k i)), tree-unflagged v P h l (slot v t k) (b.1 k i))

root-unflagged : (v : Vol) (P : ℕ) → P ≤ most_pages → (r : Root) → BelowR v P r → NoFlagsIn v r
unfolding BelowR NoFlagsIn
root-unflagged v P h (tree l t) b = tree-unflagged v P h l t b
root-unflagged v P h (run s n) b = tt

-- on a sound volume: in the user file, the object file and every file
pub unflagged : (P : ℕ) (v : Vol) → P ≤ most_pages → Sound P v
    → NoFlagsIn v (user_file v) × NoFlagsIn v (object_file v) × ((u f : ℕ) → u < 256 → f < 256 → NoFlagsIn v (file_at v (file_entry u f)))
unflagged P v h S = let W = sound-within P v (most P v S) in
    (root-unflagged v P h (user_file v) W.users, root-unflagged v P h (object_file v) W.objs, λ u f i j. root-unflagged v P h (file_at v (file_entry u f)) (W.files u f i j))
