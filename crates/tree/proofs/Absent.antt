-- Where a file ends, as code finds it, and its entries from there on. Assumes nothing.
use mathlib.Core.Path.{◌≡◌, refl, sym, ap, ◌∙◌}
use mathlib.Core.List.{List}
use Prim.Native.Nat.{ℕ, ◌*◌, ◌/◌, ◌≤◌, ◌<◌}
use native.Mathlib.Decide.{dec_lt}
use native.Mathlib.Omega.{arith}
use Rattle.book.specs.Words.{Words, Vol, vol}
use Rattle.book.specs.Pointers.{slot}
use Rattle.book.specs.Entries.{object, object_file, object_page, used, object_pages}
use Rattle.book.specs.Trees.{Root, root_by, page_at}
use Rattle.laws.specs.Tree.Positions.{root-one, root-one-past, root-two, root-run-past, root-bad}
use Rattle.page.proofs.Slots.{slot-absent}
use Rattle.tree.specs.Blocks.{End}
use Rattle.tree.specs.Ends.{Ends, SlotsEnd, TreeEnd}
use Rattle.tree.proofs.Blocks.{part_of, part-slot}
use Rattle.tree.proofs.Entries.{object-in, absent-word}

-- ---- blocks

pub slots-none : (v : Vol) (b : ℕ) → b ≡ 0 → SlotsEnd v b 0
slots-none v b e = record { most = omega arith; none = λ k h l. ap (λ (x : ℕ). slot v x k) e ∙ slot-absent v k }

-- from the block's part of the image
pub slots-part : (img : List ℕ) (b n : ℕ) → 0 < b → End (part_of img b) n → SlotsEnd (vol img) b n
slots-part img b n h d = record { most = d.most; none = λ k l i. sym (part-slot img b h k) ∙ d.none k i l }

-- ---- the object file, by the flags x and the page t of its pointer

module _ (img : List ℕ) (x t n : ℕ) (e : object_file (vol img) ≡ root_by x t 0) where
  abbrev v : Vol
  v = vol img

  by-root : n ≤ object_pages → ((k : ℕ) → n ≤ k → k < object_pages → page_at v (root_by x t 0) k ≡ 0) → Ends img n
  by-root h f = record { most = h; none = λ k l j. ap (λ (r : Root). page_at v r k) e ∙ f k l j }

  pub ends-one : x ≡ 1 → SlotsEnd v t n → Ends img n
  ends-one q s = by-root (omega (arith, s.most)) (λ k l j. elim (dec_lt k 512) [
    | yes o ↦ root-one v x t 0 k q o ∙ s.none k l o
    | no o ↦ root-one-past v x t 0 k q (omega arith)
  ])

  pub ends-two : x ≡ 2 → TreeEnd v t n → Ends img n
  ends-two q s = by-root s.most (λ k l j. root-two v x t 0 k q (omega arith) ∙ s.none k l j)

  pub ends-other : n ≡ 0 → (x ≡ 1 → ⊥) → (x ≡ 2 → ⊥) → Ends img n
  ends-other z a b = by-root (omega arith) (λ k l j. elim (dec_lt 2 x) [
    | yes o ↦ root-bad v x t 0 k o
    | no o ↦ root-run-past v x t 0 k (omega arith) (omega arith)
  ])

-- ---- entries from its end on have only zeros, and are unused

module _ (img : List ℕ) (n : ℕ) (d : Ends img n) (e : ℕ) (low : 32 * n ≤ e) (high : e < 65536) where
  pub ends-page : object_page (vol img) e ≡ 0
  unfolding object_page
  ends-page = d.none (e / 32) (omega arith) (omega arith)

  pub ends-word : (k : ℕ) → object (vol img) e k ≡ 0
  ends-word k =
      ap (λ (w : Words). w k) (sym (object-in (vol img) e (object_page (vol img) e) refl)) ∙ absent-word (vol img) (object_page (vol img) e) e k ends-page

  pub ends-unused : used (object (vol img) e) ≡ 0
  unfolding used
  ends-unused = omega (arith, ends-word 0)
