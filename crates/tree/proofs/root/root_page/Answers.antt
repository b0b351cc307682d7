use native.Mathlib.Omega.{arith}
use mathlib.Core.Path.{sym, ◌∙◌, ap}
use Prim.Native.Nat.{ℕ, ◌/◌, ◌%◌}
use Rattle.book.specs.Words.{vol}
use Rattle.book.specs.Pointers.{slot}
use Rattle.laws.specs.Tree.Positions.{root-one, root-one-past, root-two, root-two-past, root-run, root-run-past, root-bad, run-below, slots-one, slots-two}
use Rattle.tree.proofs.Reach.{reached}
use Rattle.tree.proofs.root.root_page.Goals as goal

pub overflow_add-result : goal.overflow_add-result
overflow_add-result c = omega (arith, run-below (vol c.args.img.now) _ c.args.pointer.flags c.args.pointer.page c.args.count c.requires.below (omega arith))

pub returns-in-0 : goal.returns-in-0
returns-in-0 c = reached _ _ c.requires c.args.n _ (sym (root-run (vol c.args.img.now) c.args.pointer.flags c.args.pointer.page c.args.count c.args.n (omega arith) (omega arith)))

pub returns-in_default : goal.returns-in_default
returns-in_default c = reached _ _ c.requires c.args.n _ (sym (root-run-past (vol c.args.img.now) c.args.pointer.flags c.args.pointer.page c.args.count c.args.n (omega arith) (omega arith)))

pub slot_at-requires : goal.slot_at-requires
slot_at-requires c =
    (omega (arith, (slots-one (vol c.args.img.now) _ c.args.pointer.flags c.args.pointer.page c.args.count c.requires.below (omega arith) 0 (omega arith)).0), omega arith)

pub returns-in-1 : goal.returns-in-1
returns-in-1 c =
    reached _ _ c.requires c.args.n _ (c.slot_at.ensures.0 ∙ sym (root-one (vol c.args.img.now) c.args.pointer.flags c.args.pointer.page c.args.count c.args.n (omega arith) (omega arith)))

pub returns-in_default-2 : goal.returns-in_default-2
returns-in_default-2 c = reached _ _ c.requires c.args.n _ (sym (root-one-past (vol c.args.img.now) c.args.pointer.flags c.args.pointer.page c.args.count c.args.n (omega arith) (omega arith)))

pub slot_at-requires-in-2 : goal.slot_at-requires-in-2
slot_at-requires-in-2 c =
    (omega (arith, (slots-two (vol c.args.img.now) _ c.args.pointer.flags c.args.pointer.page c.args.count c.requires.below (omega arith) 0 0 (omega arith) (omega arith)).0), omega arith)

pub slot_at-requires-in-2-2 : goal.slot_at-requires-in-2-2
slot_at-requires-in-2-2 c =
    (omega (arith, c.slot_at-in-2.ensures.0, (slots-two (vol c.args.img.now) _ c.args.pointer.flags c.args.pointer.page c.args.count c.requires.below (omega arith) (c.args.n / 512) 0 (omega arith) (omega arith)).1), omega arith)

pub returns-in-2 : goal.returns-in-2
returns-in-2 c = let v = vol c.args.img.now in
    reached _ _ c.requires c.args.n _ (c.slot_at-in-2-2.ensures.0 ∙ ap (λ (b : ℕ). slot v b (c.args.n % 512)) c.slot_at-in-2.ensures.0 ∙ sym (root-two v c.args.pointer.flags c.args.pointer.page c.args.count c.args.n (omega arith) (omega arith)))

pub returns-in_default-3 : goal.returns-in_default-3
returns-in_default-3 c = reached _ _ c.requires c.args.n _ (sym (root-two-past (vol c.args.img.now) c.args.pointer.flags c.args.pointer.page c.args.count c.args.n (omega arith) (omega arith)))

pub returns-in_default-4 : goal.returns-in_default-4
returns-in_default-4 c = reached _ _ c.requires c.args.n _ (sym (root-bad (vol c.args.img.now) c.args.pointer.flags c.args.pointer.page c.args.count c.args.n (omega arith)))
