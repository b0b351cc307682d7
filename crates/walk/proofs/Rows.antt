-- Rows: a block's pointers that name pages one after the other. Assumes nothing.
use mathlib.Core.Path.{◌≡◌, sym, ap, ap₂, ◌∙◌}
use mathlib.Core.List.{List}
use Prim.Native.Nat.{ℕ, ◌+◌, ◌-◌, ◌≤◌, ◌<◌}
use native.Mathlib.Omega.{arith}
use Rattle.sums.specs.Sum.{sum, sum-ext}
use Rattle.book.specs.Words.{vol}
use Rattle.book.specs.Trees.{weigh}
use Rattle.book.specs.Image.{pages}
use Rattle.laws.specs.Count.Sums.{sum-cat, sum-1}
use Rattle.tree.specs.Blocks.{pointer_in}
use Rattle.walk.specs.Short.{PointersBelow, Row}
use Rattle.walk.proofs.Walks.{row_of}
use Rattle.walk.proofs.Pointers.{slots_of, below_top}
use Rattle.walk.proofs.Runs.{run_of, page-weigh}

-- code reads pointer 1 as s
module _ (img b : List ℕ) (n : ℕ) (R : Row b n) (s : ℕ) (start : s ≡ pointer_in b 1) where
  row-page : (g : ℕ → ℕ) (i : ℕ) → i < n - 1 → g (s + i) ≡ weigh (vol img) 0 (pointer_in b (1 + i)) g
  row-page g i h =
      let c : i + 1 ≡ 1 + i = omega arith in
      let d : s + i ≡ pointer_in b (1 + i) = ap (λ (y : ℕ). y + i) start ∙ sym (R.follows i h) ∙ ap (λ (k : ℕ). pointer_in b k) c in
      ap g d ∙ sym (page-weigh (vol img) (pointer_in b (1 + i)) g)

  -- the pages of a row are that of pointer 0 and a run
  pub row-weigh : (x : ℕ) → x ≡ pointer_in b 0 → (g : ℕ → ℕ) → weigh (vol img) 0 x g + row_of (run_of s) (n - 1) g ≡ row_of (slots_of img 0 b) n g
  row-weigh x e g =
      let f : ℕ → ℕ = λ k. weigh (vol img) 0 (pointer_in b k) g in let c : 1 + (n - 1) ≡ n = omega (arith, R.long) in
      ap₂ (λ (y z : ℕ). y + z) (ap (λ (y : ℕ). weigh (vol img) 0 y g) e ∙ sym (sum-1 f)) (sum-ext (n - 1) (λ i. g (s + i)) (λ i. f (1 + i)) (row-page g))
      ∙ sym (sum-cat (n - 1) 1 f) ∙ ap (λ (k : ℕ). sum k f) c

  pub row_fits : PointersBelow img b 0 → n ≤ 512 → s + (n - 1) ≤ pages img
  row_fits w h =
      let f : pointer_in b (n - 2 + 1) ≡ pointer_in b 1 + (n - 2) = R.follows (n - 2) (omega (arith, R.long)) in
      let l : pointer_in b (n - 2 + 1) < pages img = below_top (vol img) (pages img) 0 (pointer_in b (n - 2 + 1)) (w.below (n - 2 + 1) (omega (arith, R.long))) in
      omega (arith, f, l, start, R.long)
