-- `seek::needs::object_index` meets its contract. Assumes nothing.
use mathlib.Core.Path.{sym, ap, ◌∙◌}
use Prim.Native.Nat.{ℕ, ◌/◌}
use Rattle.book.specs.Words.{vol}
use Rattle.book.specs.Pointers.{slot}
use Rattle.book.specs.Image.{pages}
use Rattle.laws.specs.Tree.Indexes.{index_read, index-none, index-one, index-two, object-top, index_below}
use Rattle.tree.proofs.Ready.{ready-some}
use native.Mathlib.Omega.{arith}
use Rattle.seek.proofs.needs.object_index.Goals as goal

pub returns-in-0 : goal.returns-in-0
returns-in-0 c =
    let v = vol c.args.img.now in
    let r = index_read v c.args.e c.flags_at.result c.page_at-top.result c.flags_at.ensures.0 c.page_at-top.ensures.0 in
    (sym (r ∙ index-none v c.flags_at.result c.page_at-top.result _ (omega arith)), ready-some _ c.requires.0)

pub returns-in-1 : goal.returns-in-1
returns-in-1 c =
    let v = vol c.args.img.now in
    let r = index_read v c.args.e c.flags_at.result c.page_at-top.result c.flags_at.ensures.0 c.page_at-top.ensures.0 in
    (sym (r ∙ index-one v c.flags_at.result c.page_at-top.result _ (omega arith)), omega (arith, c.page_at-top.ensures.0, object-top (pages c.args.img.now) v c.requires.0.sound (ready-some _ c.requires.0)))

pub slot_at-requires : goal.slot_at-requires
slot_at-requires c =
    let v = vol c.args.img.now in
    (omega (arith, c.page_at-top.ensures.0, object-top (pages c.args.img.now) v c.requires.0.sound (ready-some _ c.requires.0)), omega arith)

pub returns-in_default : goal.returns-in_default
returns-in_default c =
    let v = vol c.args.img.now in
    let r = index_read v c.args.e c.flags_at.result c.page_at-top.result c.flags_at.ensures.0 c.page_at-top.ensures.0 in
    let e = c.slot_at.ensures.0 ∙ ap (λ (n : ℕ). slot v c.page_at-top.result (n / 512)) c.of.ensures.0 ∙ sym (r ∙ index-two v c.flags_at.result c.page_at-top.result _ (omega arith)) in
    (e, omega (arith, e, index_below (pages c.args.img.now) v c.requires.0.sound (ready-some _ c.requires.0) c.args.e c.requires.1))
