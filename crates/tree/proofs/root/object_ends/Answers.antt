use mathlib.Core.Path.{refl, ap, ◌∙◌}
use Prim.Native.Nat.{ℕ}
use Rattle.book.specs.Words.{vol}
use Rattle.book.specs.Trees.{root_by}
use Rattle.laws.specs.Tree.Positions.{slots-one}
use Rattle.tree.proofs.Reach.{reach-same, object-root}
use Rattle.tree.proofs.Absent.{ends-one, ends-two, ends-other}
use native.Mathlib.Omega.{arith}
use Rattle.tree.proofs.root.object_ends.Goals as goal

pub slots_end-requires : goal.slots_end-requires
slots_end-requires c =
    let r = reach-same _ _ _ (object-root (vol c.args.img.now) c.pointer_at-objects.result.flags c.pointer_at-objects.result.page c.pointer_at-objects.ensures.flags.0 c.pointer_at-objects.ensures.page.0) c.requires in
    (slots-one _ _ c.pointer_at-objects.result.flags c.pointer_at-objects.result.page 0 r.below c.in-1.is 0 (omega arith)).0

pub returns-in-1 : goal.returns-in-1
returns-in-1 c = ends-one c.args.img.now c.pointer_at-objects.result.flags c.pointer_at-objects.result.page _ (object-root (vol c.args.img.now) c.pointer_at-objects.result.flags c.pointer_at-objects.result.page c.pointer_at-objects.ensures.flags.0 c.pointer_at-objects.ensures.page.0) c.in-1.is c.slots_end.ensures

pub tree_end-requires : goal.tree_end-requires
tree_end-requires c = reach-same _ _ _ (object-root (vol c.args.img.now) c.pointer_at-objects.result.flags c.pointer_at-objects.result.page c.pointer_at-objects.ensures.flags.0 c.pointer_at-objects.ensures.page.0 ∙ ap (λ (y : ℕ). root_by y c.pointer_at-objects.result.page 0) c.in-2.is) c.requires

pub returns-in-2 : goal.returns-in-2
returns-in-2 c = ends-two c.args.img.now c.pointer_at-objects.result.flags c.pointer_at-objects.result.page _ (object-root (vol c.args.img.now) c.pointer_at-objects.result.flags c.pointer_at-objects.result.page c.pointer_at-objects.ensures.flags.0 c.pointer_at-objects.ensures.page.0) c.in-2.is c.tree_end.ensures

pub returns-in_default : goal.returns-in_default
returns-in_default c =
    ends-other c.args.img.now c.pointer_at-objects.result.flags c.pointer_at-objects.result.page 0 (object-root (vol c.args.img.now) c.pointer_at-objects.result.flags c.pointer_at-objects.result.page c.pointer_at-objects.ensures.flags.0 c.pointer_at-objects.ensures.page.0) refl
    (λ e. omega arith) (λ e. omega arith)
