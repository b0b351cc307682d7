use mathlib.Core.Path.{◌≡◌, refl, subst}
use Prim.Native.Nat.{ℕ, ◌+◌, ◌*◌}
use native.Mathlib.Omega.{arith}
use Rattle.book.specs.Image.{pages}
use Rattle.salvage.specs.Row.{RowTells}
use Rattle.salvage.proofs.Collecting.{long, master-start, left-words, next-told}
use Rattle.salvage.proofs.collect.collect.Goals as goal

pub page_at-b-requires : goal.page_at-b-requires
page_at-b-requires c = (omega (arith, long _ c.requires.0, c.requires.0.good.whole.least), omega arith)

pub note_two-n-requires : goal.note_two-n-requires
note_two-n-requires c = let w = left-words _ c.requires.0 c.args.left c.requires.3 in
    (c.requires.0, master-start _ c.requires.0 _ c.requires.4, omega (arith, long _ c.requires.0, c.requires.0.good.whole.least), w.0, w.1)

pub next_page-p-requires : goal.next_page-p-requires
next_page-p-requires c = (c.requires.0, refl, c.page_at-b.ensures.0, omega (arith, c.requires.0.good.whole.least))

pub loop-p-init : goal.loop-p-init
loop-p-init c =
    let e : 1022 + 2 ≡ 1024 * (0 + 1) = omega arith in
    (c.next_page-p.ensures.after, c.next_page-p.ensures.most, next-told _ c.requires.0 0 c.next_page-p.result c.next_page-p.ensures _ _ (subst (λ (i : ℕ). RowTells c.args.img.now i c.note_two-n.new.row c.note_two-n.result) e c.note_two-n.ensures))

pub note_page-n-requires : goal.note_page-n-requires
note_page-n-requires c = (c.requires.0, c.requires.1, c.requires.2, c.page_at-b.ensures.0, c.loop-p.invariant.0, omega arith, c.loop-p.invariant.2)

pub next_page-p-requires-in-loop-p : goal.next_page-p-requires-in-loop-p
next_page-p-requires-in-loop-p c = (c.requires.0, refl, c.page_at-b.ensures.0, omega arith)

pub loop-p-smaller : goal.loop-p-smaller
loop-p-smaller c = omega (arith, c.next_page-p-in-loop-p.ensures.after, c.next_page-p-in-loop-p.ensures.most)

pub loop-p-preserved : goal.loop-p-preserved
loop-p-preserved c =
    let e : 1024 * c.loop-p.p + 1024 ≡ 1024 * (c.loop-p.p + 1) = omega arith in
    (omega (arith, c.next_page-p-in-loop-p.ensures.after), c.next_page-p-in-loop-p.ensures.most, next-told _ c.requires.0 c.loop-p.p c.next_page-p-in-loop-p.result c.next_page-p-in-loop-p.ensures _ _ (subst (λ (i : ℕ). RowTells c.args.img.now i c.note_page-n.new.row c.note_page-n.result) e c.note_page-n.ensures))

pub returns : goal.returns
returns c = let e : c.loop-p.p ≡ pages c.args.img.now = omega arith in
    subst (λ (p : ℕ). RowTells c.args.img.now (1024 * p) c.loop-p.row c.loop-p.n) e c.loop-p.invariant.2
