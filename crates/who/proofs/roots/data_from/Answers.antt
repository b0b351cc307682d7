-- `who::roots::data_from` meets its contract. Assumes nothing.
use mathlib.Core.Path.{sym}
use Prim.Native.Nat.{ℕ}
use native.Mathlib.Omega.{arith}
use Rattle.book.specs.Words.{vol}
use Rattle.book.specs.Pointers.{slot}
use Rattle.book.specs.Trees.{root_by, upto}
use Rattle.laws.specs.Tree.Positions.{slots-one}
use Rattle.tree.proofs.Reach.{reach-same}
use Rattle.who.specs.Turns.{positions, class_page}
use Rattle.who.proofs.Leasts.{least_by, none_zero}
use Rattle.who.proofs.Passing.{end-one, slots-hold, end-two, under}
use Rattle.who.proofs.Classes.{by_two, data-one, data-two, data-other}
use Rattle.who.proofs.roots.data_from.Goals as goal

pub level_from-requires : goal.level_from-requires
level_from-requires c = let v = vol c.args.img.now in (
  c.requires.0,
  (slots-one v _ c.args.pointer.flags c.args.pointer.page c.args.count c.requires.1.below c.if-pointer-eq1.true 0 (omega arith)).0,
  end-one v c.args.pointer.flags c.args.pointer.page c.args.count c.args.count c.min-z.result c.if-pointer-eq1.true c.requires.2 (omega (arith, c.min-z.ensures)) (λ k h l. omega (arith, c.min-z.ensures)),
  c.requires.3,
)

pub returns-then-pointer-eq1 : goal.returns-then-pointer-eq1
returns-then-pointer-eq1 c = let v = vol c.args.img.now in (
  least_by (λ (i : ℕ). upto i 512 (slot v c.args.pointer.page i)) (λ (i : ℕ). class_page v (root_by c.args.pointer.flags c.args.pointer.page c.args.count) 2 i) c.args.p c.args.n positions
      (λ i h. sym (data-one v c.args.pointer.flags c.args.pointer.page c.args.count i c.if-pointer-eq1.true)) c.level_from.result c.level_from.ensures.0,
  c.level_from.ensures.1,
)

pub tree_from-requires : goal.tree_from-requires
tree_from-requires c = (
  c.requires.0,
  reach-same _ _ _ (by_two c.args.pointer.flags c.args.pointer.page c.args.count c.if-pointer-eq2.true) c.requires.1,
  end-two (vol c.args.img.now) c.args.pointer.flags c.args.pointer.page c.args.count c.args.count c.min-z-then-pointer-eq2.result c.if-pointer-eq2.true c.requires.2 (omega (arith, c.min-z-then-pointer-eq2.ensures)) (λ k. slots-hold c.args.count c.div_ceil.result c.min-z-then-pointer-eq2.result k c.div_ceil.ensures c.min-z-then-pointer-eq2.ensures),
  c.requires.3,
)

pub returns-then-pointer-eq2 : goal.returns-then-pointer-eq2
returns-then-pointer-eq2 c = let v = vol c.args.img.now in (
  least_by (λ (i : ℕ). under v c.args.pointer.page i) (λ (i : ℕ). class_page v (root_by c.args.pointer.flags c.args.pointer.page c.args.count) 2 i) c.args.p c.args.n positions
      (λ i h. sym (data-two v c.args.pointer.flags c.args.pointer.page c.args.count i c.if-pointer-eq2.true h)) c.tree_from.result c.tree_from.ensures.0,
  c.tree_from.ensures.1,
)

pub returns : goal.returns
returns c = let v = vol c.args.img.now in
    (none_zero (λ (i : ℕ). class_page v (root_by c.args.pointer.flags c.args.pointer.page c.args.count) 2 i) c.args.p c.args.n positions c.requires.0.page (λ i. data-other v c.args.pointer.flags c.args.pointer.page c.args.count i (omega (arith, c.requires.4))), c.requires.0)
