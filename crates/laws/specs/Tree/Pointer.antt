-- Pointers: their flags and page as they are read and written, and the root that an entry's pointer says. Assumes nothing.
use Rattle.std.specs.Prelude.{◌≡◌, ℕ, suc, ◌+◌, ◌*◌, ◌/◌, ◌%◌, ◌<◌}
use Rattle.std.proofs.Math.Path.{ap, ap₂}
use Rattle.std.proofs.Common.{◌∙◌, arith}
use Rattle.sums.specs.Search.{pick_yes, pick_no}
use Rattle.book.specs.Entries.{object, used}
use Rattle.book.specs.Files.{file_at}
use Rattle.book.specs.Pointers.{flags, page, Zero, pointer, flags_above}
use Rattle.book.specs.Trees.{run, root_at, root_by, tree}
use Rattle.book.specs.Words.{Vol, two, put2}
use Rattle.book.specs.Written.{put2-hi, put2-lo}

pub flags-ext : (w x : ℕ → ℕ) (k : ℕ) → w k ≡ x k → flags w k ≡ flags x k
unfolding flags
flags-ext w x k e = ap (λ (m : ℕ). m / flags_above) e

pub page-ext : (w x : ℕ → ℕ) (k : ℕ) → w k ≡ x k → w (suc k) ≡ x (suc k) → page w k ≡ page x k
unfolding page
page-ext w x k a b = ap₂ (λ (m n : ℕ). m % flags_above * 65536 + n) a b

pub used-ext : (w x : ℕ → ℕ) → w 0 ≡ x 0 → used w ≡ used x
unfolding used
used-ext w x e = ap (λ (m : ℕ). m / 32768) e

pub flags-pointer : (x t : ℕ) → t < 1073741824 → pointer x t / 65536 / flags_above ≡ x
unfolding pointer
flags-pointer x t h = omega arith

pub page-pointer : (x t : ℕ) → t < 1073741824 → pointer x t / 65536 % flags_above * 65536 + pointer x t % 65536 ≡ t
unfolding pointer
page-pointer x t h = omega arith

-- a pointer is written
module _ (v : Vol) (q j x t : ℕ) (h : t < 1073741824) where
  pub pointer-flags : flags (put2 v q j (pointer x t) q) j ≡ x
  unfolding flags
  pointer-flags = ap (λ (y : ℕ). y / flags_above) (put2-hi v q j (pointer x t)) ∙ flags-pointer x t h

  pub pointer-page : page (put2 v q j (pointer x t) q) j ≡ t
  unfolding page
  pointer-page = ap₂ (λ (y z : ℕ). y % flags_above * 65536 + z) (put2-hi v q j (pointer x t)) (put2-lo v q j (pointer x t)) ∙ page-pointer x t h

pub zero_flags : (w : ℕ → ℕ) (k : ℕ) → Zero w k → flags w k ≡ 0
unfolding Zero flags
zero_flags w k z = omega (arith, z.0)

pub zero-page : (w : ℕ → ℕ) (k : ℕ) → Zero w k → page w k ≡ 0
unfolding Zero page
zero-page w k z = omega (arith, z.0, z.1)

-- ---- roots

pub root-0 : (w : ℕ → ℕ) (k n : ℕ) → flags w k ≡ 0 → root_at w k n ≡ run (page w k) n
unfolding root_at root_by
root-0 w k n h = ap (λ (x : ℕ). root_by x (page w k) n) h

pub root-1 : (w : ℕ → ℕ) (k n : ℕ) → flags w k ≡ 1 → root_at w k n ≡ tree 1 (page w k)
unfolding root_at root_by
root-1 w k n h = ap (λ (x : ℕ). root_by x (page w k) n) h

pub root-2 : (w : ℕ → ℕ) (k n : ℕ) → flags w k ≡ 2 → root_at w k n ≡ tree 2 (page w k)
unfolding root_at root_by
root-2 w k n h = ap (λ (x : ℕ). root_by x (page w k) n) h

-- ---- roots

pub root_at-ext : (w x : ℕ → ℕ) (k n : ℕ) → w k ≡ x k → w (suc k) ≡ x (suc k) → root_at w k n ≡ root_at x k n
unfolding root_at
root_at-ext w x k n a b = ap₂ (λ (f t : ℕ). root_by f t n) (flags-ext w x k a) (page-ext w x k a b)

-- the pages of a used entry's file, and of an unused one's
pub file-used : (v : Vol) (e : ℕ) → 0 < used (object v e) → file_at v e ≡ root_at (object v e) 30 (two (object v e) 26)
unfolding file_at
file-used v e h = pick_yes (used (object v e)) (root_at (object v e) 30 (two (object v e) 26)) (run 0 0) h

pub file-unused : (v : Vol) (e : ℕ) → used (object v e) ≡ 0 → file_at v e ≡ run 0 0
unfolding file_at
file-unused v e h = pick_no (used (object v e)) (root_at (object v e) 30 (two (object v e) 26)) (run 0 0) h
