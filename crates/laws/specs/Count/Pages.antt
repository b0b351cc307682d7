-- Pages counted: what a file holds, what is reserved, visited and free. Assumes nothing.
use Rattle.std.specs.Prelude.{◌≡◌, refl, ℕ, zero, suc, ◌+◌, ◌<◌, ◌≤◌}
use Rattle.std.proofs.Math.Path.{sym}
use Rattle.std.proofs.Common.{ap, ◌∙◌, inl, inr, arith}
use Rattle.sums.specs.Sum.{sum, sum-zero, sum-ext, sum-none, sum-const}
use Rattle.book.specs.Bits.{bit, reserved}
use Rattle.book.specs.Entries.{object, used, page_count}
use Rattle.book.specs.Files.{file_at, Shape, FileShape, cost, IsRun}
use Rattle.book.specs.Holders.{some, all, holders, visits}
use Rattle.book.specs.Pointers.{flags, page}
use Rattle.book.specs.Rules.{Rule7, Sound, Rule8}
use Rattle.book.specs.Trees.{Root, run, weigh_r, root_at, root_by}
use Rattle.book.specs.Words.{Vol}
use Rattle.laws.specs.Count.Good.{free, free-count, good, most, bit-holders, holders-count, sound-within}
use Rattle.laws.specs.Count.Reach.{Within}
use Rattle.laws.specs.File.Cost.{fill-1, fill-2}
use Rattle.laws.specs.Tree.Pointer.{file-used}
use Rattle.laws.specs.Tree.Slot.{some-pos}

some-small : (x : ℕ) → x ≤ 1 → some x ≡ x
unfolding some
some-small zero h = refl
some-small (suc x) h = omega arith

-- each held page is visited once, whatever the bits say
pub visits-holders : (P : ℕ) (v : Vol) → Rule8 P v → visits P v ≡ sum P (holders P v)
unfolding visits Rule8
visits-holders P v one = sum-ext P (λ p. some (holders P v p)) (holders P v) (λ p h. some-small (holders P v p) (one p h))

pub visits-all : (P : ℕ) (v : Vol) → 0 < P → Rule8 P v → Within P v → visits P v ≡ 1 + all P v some
visits-all P v pos one W = visits-holders P v one ∙ holders-count P v W pos

-- ---- a file

pub run-count : (v : Vol) (t n : ℕ) → 0 < t → weigh_r v (run t n) some ≡ n
unfolding weigh_r
run-count v t n h = sum-ext n (λ i. some (t + i)) (λ i. 1) (λ i l. some-pos (t + i) (omega arith)) ∙ sum-const n 1 ∙ omega arith

-- an empty or indexed file
shape-cost : (P : ℕ) (v : Vol) (x t n : ℕ) → Shape P v x t n → (IsRun x n → ⊥) → weigh_r v (root_by x t n) some ≡ cost n
unfolding Shape root_by weigh_r cost
shape-cost P v zero t n (inl s) k = ap (λ (m : ℕ). sum m (λ i. some (t + i))) s.0 ∙ sum-zero (λ i. some (t + i)) ∙ omega (arith, s.0)
shape-cost P v zero t n (inr s) k = absurd (k (refl, s.0))
shape-cost P v (suc zero) t n s k = fill-1 v t n s.1 s.2 ∙ omega (arith, s.0, s.1)
shape-cost P v (suc (suc zero)) t n s k = fill-2 v t n s.0 s.1 s.2
shape-cost P v (suc (suc (suc x))) t n s k = absurd s

shape-run : (P : ℕ) (v : Vol) (x t n : ℕ) → Shape P v x t n → IsRun x n → weigh_r v (root_by x t n) some ≡ n
unfolding Shape root_by
shape-run P v zero t n (inl s) k = absurd (let r : ⊥ = omega (arith, s.0, k.1) in r)
shape-run P v zero t n (inr s) k = run-count v t n s.1
shape-run P v (suc x) t n s k = absurd (let r : ⊥ = omega (arith, k.0) in r)

module _ (P : ℕ) (v : Vol) (S : Sound P v) (e : ℕ) (he : e < 65536) (ue : 0 < used (object v e)) where
  abbrev n : ℕ
  n = page_count (object v e)

  abbrev x : ℕ
  x = flags (object v e) 30

  abbrev t : ℕ
  t = page (object v e) 30

  root : file_at v e ≡ root_by x t n
  unfolding root_at
  root = file-used v e ue

  shape : Shape P v x t n
  unfolding Rule7 FileShape
  shape = (S.r7 e he ue).0

  -- an indexed file of n pages holds exactly cost n pages, a contiguous one n
  pub file-cost : (IsRun x n → ⊥) → weigh_r v (file_at v e) some ≡ cost n
  file-cost k = ap (λ (r : Root). weigh_r v r some) root ∙ shape-cost P v x t n shape k

  pub run-cost : IsRun x n → weigh_r v (file_at v e) some ≡ n
  run-cost k = ap (λ (r : Root). weigh_r v r some) root ∙ shape-run P v x t n shape k

-- ---- the volume

module _ (P : ℕ) (v : Vol) (S : Sound P v) where
  -- each held page is visited once: as many as are reserved
  pub visits-reserved : visits P v ≡ reserved P v
  unfolding reserved
  visits-reserved = visits-holders P v S.r8 ∙ sym (sum-ext P (bit P v) (holders P v) (bit-holders P v S))

  pub reserved-held : 0 < P → reserved P v ≡ 1 + all P v some
  unfolding reserved
  reserved-held h = sum-ext P (bit P v) (holders P v) (bit-holders P v S) ∙ holders-count P v (sound-within P v (most P v S)) h

  -- free and held pages are all pages
  pub free-visits : 0 < P → free P v + visits P v ≡ P
  free-visits h = omega (arith, visits-reserved, reserved-held h, free-count P v (λ p. 0) (good P v S) h, sum-none P (λ p. 0) (λ p i. refl))
