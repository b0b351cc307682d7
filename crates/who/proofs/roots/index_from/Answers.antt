-- `who::roots::index_from` meets its contract. Assumes nothing.
use mathlib.Core.Path.{sym}
use Prim.Native.Nat.{ℕ}
use native.Mathlib.Omega.{arith}
use Rattle.book.specs.Words.{vol}
use Rattle.book.specs.Pointers.{slot}
use Rattle.book.specs.Trees.{root_by, upto}
use Rattle.laws.specs.Tree.Positions.{slots-two}
use Rattle.who.specs.Turns.{positions, class_page}
use Rattle.who.proofs.Leasts.{least_by, none_zero}
use Rattle.who.proofs.Passing.{slots-hold, end-two}
use Rattle.who.proofs.Classes.{index-one, index-two, index-other}
use Rattle.who.proofs.roots.index_from.Goals as goal

pub returns-then-pointer-eq1 : goal.returns-then-pointer-eq1
returns-then-pointer-eq1 c = let v = vol c.args.img.now in (
  least_by (λ (i : ℕ). upto i 1 c.args.pointer.page) (λ (i : ℕ). class_page v (root_by c.args.pointer.flags c.args.pointer.page c.args.count) 1 i) c.args.p c.args.n positions
      (λ i h. sym (index-one v c.args.pointer.flags c.args.pointer.page c.args.count i c.if-pointer-eq1.true)) c.top_from.result c.top_from.ensures,
  c.requires.0,
)

pub level_from-requires : goal.level_from-requires
level_from-requires c = (
  c.requires.0,
  (slots-two (vol c.args.img.now) _ c.args.pointer.flags c.args.pointer.page c.args.count c.requires.1.below c.if-pointer-eq2.true 0 0 (omega arith) (omega arith)).0,
  end-two (vol c.args.img.now) c.args.pointer.flags c.args.pointer.page c.args.count c.args.count c.min-z.result c.if-pointer-eq2.true c.requires.2 (omega (arith, c.min-z.ensures)) (λ k. slots-hold c.args.count c.div_ceil.result c.min-z.result k c.div_ceil.ensures c.min-z.ensures),
  c.requires.3,
)

pub returns-then-pointer-eq2 : goal.returns-then-pointer-eq2
returns-then-pointer-eq2 c = let v = vol c.args.img.now in (
  least_by (λ (i : ℕ). upto i 512 (slot v c.args.pointer.page i)) (λ (i : ℕ). class_page v (root_by c.args.pointer.flags c.args.pointer.page c.args.count) 1 i) c.args.p c.args.n positions
      (λ i h. sym (index-two v c.args.pointer.flags c.args.pointer.page c.args.count i c.if-pointer-eq2.true)) c.level_from.result c.level_from.ensures.0,
  c.level_from.ensures.1,
)

pub returns : goal.returns
returns c = let v = vol c.args.img.now in
    (none_zero (λ (i : ℕ). class_page v (root_by c.args.pointer.flags c.args.pointer.page c.args.count) 1 i) c.args.p c.args.n positions c.requires.0.page (λ i. index-other v c.args.pointer.flags c.args.pointer.page c.args.count i c.if-pointer-eq1.false c.if-pointer-eq2.false), c.requires.0)
