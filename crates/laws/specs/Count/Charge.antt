-- The pages of files, from their entries alone: what a shape holds is known by its flags and its page count. Assumes nothing.
use Rattle.std.specs.Prelude.{◌≡◌}
use Rattle.std.proofs.Math.Path.{sym, ap}
use Rattle.std.proofs.Common.{◌∙◌, eq-zero-or-pos}
use Rattle.std.proofs.Math.Logic.{inl, inr}
use Prim.Native.Nat.{ℕ, zero, suc, ◌+◌, ◌*◌, ◌<◌}
use native.Mathlib.Omega.{arith}
use Rattle.sums.specs.Search.{pick, pick_yes, pick_no}
use Rattle.sums.specs.Sum.{sum, sum-zero, sum-none, sum-ext}
use Rattle.book.specs.Entries.{object, used, page_count, file_pointer}
use Rattle.book.specs.Files.{cost, file_at, Shape, FileShape}
use Rattle.book.specs.Holders.{some, mine}
use Rattle.book.specs.Pointers.{flags}
use Rattle.book.specs.Rules.{Rule7}
use Rattle.book.specs.Trees.{Root, root_at, root_by, weigh_r}
use Rattle.book.specs.Words.{Words, Vol}
use Rattle.laws.specs.Count.Pages.{run-count}
use Rattle.laws.specs.Count.Sums.{sum_rows}
use Rattle.laws.specs.File.Cost.{fill-1, fill-2}
use Rattle.laws.specs.Tree.Pointer.{file-unused, file-used}

-- the pages of a file of n pages, by the flags of its pointer: a run has no blocks
unfoldable pub charge : ℕ → ℕ → ℕ
charge zero n = n
charge (suc x) n = cost n

-- the pages of the file in an entry: none of an unused one
unfoldable pub entry_pages : Words → ℕ
entry_pages w = pick (used w) (charge (flags w file_pointer) (page_count w)) 0

module _ (P : ℕ) (v : Vol) where
  pub shape-pages : (x t n : ℕ) → Shape P v x t n → weigh_r v (root_by x t n) some ≡ charge x n
  unfolding Shape root_by weigh_r charge cost
  shape-pages zero t n (inl a) = sum-none n (λ i. some (t + i)) (λ i h. absurd (let z : ⊥ = omega (arith, a) in z)) ∙ sym a.0
  shape-pages zero t n (inr a) = run-count v t n a.1
  shape-pages (suc zero) t n a = fill-1 v t n a.1 a.2 ∙ omega (arith, a.0, a.1)
  shape-pages (suc (suc zero)) t n a = fill-2 v t n a.0 a.1 a.2
  shape-pages (suc (suc (suc x))) t n a = absurd a

  module _ (r : Rule7 P v) where
    pub file-pages : (e : ℕ) → e < 65536 → weigh_r v (file_at v e) some ≡ entry_pages (object v e)
    unfolding Rule7 FileShape root_at entry_pages weigh_r
    file-pages e h = elim (eq-zero-or-pos (used (object v e))) [
      | inl z ↦ ap (λ (s : Root). weigh_r v s some) (file-unused v e z) ∙ sum-zero (λ i. some (0 + i)) ∙ sym (pick_no (used (object v e)) _ 0 z)
      | inr q ↦ ap (λ (s : Root). weigh_r v s some) (file-used v e q) ∙ shape-pages _ _ _ (r e h q).0 ∙ sym (pick_yes (used (object v e)) _ 0 q)
    ]

    -- the files of user u: those of eight object pages, 32 each
    pub mine-pages : (u : ℕ) → u < 256 → sum 8 (λ i. sum 32 (λ k. entry_pages (object v (32 * (8 * u + i) + k)))) ≡ mine v u some
    unfolding mine
    mine-pages u h =
        sum-ext 8 _ (λ i. sum 32 (λ k. weigh_r v (file_at v (256 * u + (32 * i + k))) some)) (λ i a. sum-ext 32 _ _ (λ k b. at i k a b))
        ∙ sum_rows 32 8 (λ f. weigh_r v (file_at v (256 * u + f)) some)
      where
        at : (i k : ℕ) → i < 8 → k < 32 → entry_pages (object v (32 * (8 * u + i) + k)) ≡ weigh_r v (file_at v (256 * u + (32 * i + k))) some
        at i k a b =
            let e : 32 * (8 * u + i) + k ≡ 256 * u + (32 * i + k) = omega arith in
            ap (λ (x : ℕ). entry_pages (object v x)) e ∙ sym (file-pages (256 * u + (32 * i + k)) (omega arith))
