-- The owners in a row: the bit file, the user file, the object file, then every object entry. Assumes nothing.
use Rattle.std.specs.Prelude.{◌≡◌, ℕ, zero, suc, ◌+◌}
use Rattle.std.proofs.Common.{ap, arith}
use Rattle.sums.specs.Search.{pick}
use Rattle.sums.specs.Sum.{sum, sum-zero, sum-suc, sum-ext}
use Rattle.book.specs.Bits.{bit_file}
use Rattle.book.specs.Entries.{user_file, object_file, object, used, page_count, file_pointer}
use Rattle.book.specs.Files.{file_at}
use Rattle.book.specs.Holders.{all, system, mine}
use Rattle.book.specs.Trees.{Root, run, weigh_r, root_at}
use Rattle.book.specs.Words.{Vol}
use Rattle.laws.specs.Count.Sums.{sum-cat, sum_rows}
use Rattle.laws.specs.Tree.Roles.{Shallow, shallow-by}

abbrev pub owners : ℕ
owners = 3 + 65536

unfoldable pub root_of : ℕ → Vol → ℕ → Root
root_of P v zero = bit_file P v
root_of P v (suc zero) = user_file v
root_of P v (suc (suc zero)) = object_file v
root_of P v (suc (suc (suc e))) = file_at v e

-- the file of entry e
pub root-file : (P : ℕ) (v : Vol) (e : ℕ) → root_of P v (3 + e) ≡ file_at v e
unfolding root_of
root-file P v e = let q : 3 + e ≡ suc (suc (suc e)) = omega arith in ap (root_of P v) q

-- what each owner holds, in all
pub owners-sum : (P : ℕ) (v : Vol) (g : ℕ → ℕ) → sum owners (λ i. weigh_r v (root_of P v i) g) ≡ all P v g
unfolding all system mine root_of
owners-sum P v g =
    let F : ℕ → ℕ = λ i. weigh_r v (root_of P v i) g in
    omega (
      arith,
      sum-cat 65536 3 F,
      sum-ext 65536 (λ e. F (3 + e)) (λ e. weigh_r v (file_at v e) g) (λ e h. ap (λ (r : Root). weigh_r v r g) (root-file P v e)),
      sum_rows 256 256 (λ e. weigh_r v (file_at v e) g),
      sum-suc 2 F,
      sum-suc 1 F,
      sum-suc 0 F,
      sum-zero F,
    )

-- each owner's root is a run or a tree of level 1 or 2
pub file-shallow : (v : Vol) (e : ℕ) → Shallow (file_at v e)
unfolding root_at file_at Shallow pick
file-shallow v e = go (used (object v e))
  where
    go : (x : ℕ) → Shallow (pick x (root_at (object v e) file_pointer (page_count (object v e))) (run 0 0))
    go zero = tt
    go (suc x) = shallow-by _ _ _

pub owner-shallow : (P : ℕ) (v : Vol) (i : ℕ) → Shallow (root_of P v i)
unfolding root_of root_at bit_file user_file object_file Shallow
owner-shallow P v zero = tt
owner-shallow P v (suc zero) = shallow-by _ _ _
owner-shallow P v (suc (suc zero)) = shallow-by _ _ _
owner-shallow P v (suc (suc (suc e))) = file-shallow v e
