-- A used file of a good volume (Owned): its root and shape by its flags, and that its pages are its own. Assumes nothing.
use Rattle.std.specs.Prelude.{◌≡◌, ℕ, ◌+◌, ◌*◌, ◌≤◌, ◌<◌}
use Rattle.std.proofs.Math.Path.{ap, subst}
use Rattle.std.proofs.Common.{◌∙◌, arith}
use Rattle.book.specs.Entries.{object, used}
use Rattle.book.specs.Files.{file_at, Shape, FileShape}
use Rattle.book.specs.Holders.{hit, all}
use Rattle.book.specs.Pointers.{flags, page}
use Rattle.book.specs.Rules.{Rule7}
use Rattle.book.specs.Trees.{weigh_r, root_at, root_by}
use Rattle.book.specs.Words.{Vol, two}
use Rattle.laws.specs.Count.Good.{bit_le}
use Rattle.laws.specs.Frame.Edit.{Seat}
use Rattle.laws.specs.Frame.Rest.{rest, all_rest, file-le}
use Rattle.laws.specs.Tree.Pointer.{file-used}

-- file f of user a is used, and page numbers fit into a pointer
pub record Owned (P : ℕ) (v : Vol) (hand : ℕ → ℕ) (a f : ℕ) : Type 0 where
  pub seat : Seat P v hand a f
  pub big : P ≤ 1073741824
  pub uf : 0 < used (object v (256 * a + f))

module _ {P : ℕ} {v : Vol} {hand : ℕ → ℕ} {a f : ℕ} (here : Owned P v hand a f) where
  abbrev e : ℕ
  e = 256 * a + f

  abbrev n : ℕ
  n = two (object v e) 26

  abbrev t : ℕ
  t = page (object v e) 30

  -- a page of the file is held by it alone
  pub own : (q : ℕ) → q < P → 1 ≤ weigh_r v (file_at v e) (hit q) → (all P v (hit q) ≡ weigh_r v (file_at v e) (hit q)) × (weigh_r v (file_at v e) (hit q) ≡ 1)
  unfolding rest
  own q h i = (
    omega (arith, here.seat.good.held q h, bit_le P v q, all_rest P v (hit q), file-le v (hit q) a f here.seat.ha here.seat.hf),
    omega (arith, here.seat.good.held q h, bit_le P v q, all_rest P v (hit q), file-le v (hit q) a f here.seat.ha here.seat.hf),
  )

  -- a page in hand is held by nobody
  pub loose : (q : ℕ) → q < P → 1 ≤ hand q → (all P v (hit q) ≡ 0) × (weigh_r v (file_at v e) (hit q) ≡ 0) × (hand q ≡ 1)
  unfolding rest
  loose q h i = (omega (arith, here.seat.good.held q h, bit_le P v q), omega (arith, here.seat.good.held q h, bit_le P v q, all_rest P v (hit q), file-le v (hit q) a f here.seat.ha here.seat.hf), omega (arith, here.seat.good.held q h, bit_le P v q))

  pub root_is : (x : ℕ) → flags (object v e) 30 ≡ x → file_at v e ≡ root_by x t n
  unfolding root_at
  root_is x h = file-used v e here.uf ∙ ap (λ (y : ℕ). root_by y t n) h

  pub shape_is : (x : ℕ) → flags (object v e) 30 ≡ x → Shape P v x t n
  unfolding Rule7 FileShape
  shape_is x h = subst (λ (y : ℕ). Shape P v y t n) h (here.seat.good.most.r7 e (omega arith) here.uf).0
