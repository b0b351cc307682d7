-- `making::place::user_place` meets its contract. Assumes nothing.
use Prim.Native.Nat.{◌≤◌, ◌<◌}
use Rattle.book.specs.Create.{raises}
use Rattle.book.specs.Entries.{unreserved}
use Rattle.book.specs.Image.{pages}
use Rattle.book.specs.Pointers.{page, user_pointer}
use Rattle.book.specs.Words.{vol, Vol}
use Rattle.making.proofs.Between.{with-page, place-first, place-later}
use Rattle.making.proofs.Ready.{ready-next}
use Rattle.making.proofs.Needs.{need-first, need-later}
use Rattle.tree.proofs.Ready.{ready-some}
use mathlib.Core.Path.{sym, subst, ◌≡◌}
use native.Mathlib.Omega.{arith}
use Rattle.making.proofs.place.user_place.Goals as goal

pub start-requires : goal.start-requires
start-requires c = let z : page (vol c.args.img.now 0) user_pointer ≡ 0 = omega arith in (c.requires.0, omega (arith, need-first (vol c.args.img.now) c.args.u z))

pub returns-then-page_at-eq0 : goal.returns-then-page_at-eq0
returns-then-page_at-eq0 c = let z : page (vol c.args.img.now 0) user_pointer ≡ 0 = omega arith in place-first (pages c.args.img.now) (vol c.args.img.now) c.args.u z _ c.start.ensures

pub with_user_page-requires : goal.with_user_page-requires
with_user_page-requires c = let h : 0 < page (vol c.args.img.now 0) user_pointer = omega arith in (c.requires.0, c.requires.1, h, omega (arith, need-later (vol c.args.img.now) c.args.u h))

pub with_subindex-requires : goal.with_subindex-requires
with_subindex-requires c =
    let h : 0 < page (vol c.args.img.now 0) user_pointer = omega arith in
    let W = with-page (pages c.args.img.now) (vol c.args.img.now) c.requires.0.sound (ready-some _ c.requires.0) c.args.u c.requires.1 h (omega (arith, need-later (vol c.args.img.now) c.args.u h)) in
    (ready-next c.args.img.now _ c.requires.0 _ c.with_user_page.ensures W.sound (omega arith), subst (λ (x : Vol). raises x c.args.u ≤ unreserved x) (sym c.with_user_page.ensures) (omega (arith, W.asks, W.left, need-later (vol c.args.img.now) c.args.u h)))

pub returns-else-page_at-eq0 : goal.returns-else-page_at-eq0
returns-else-page_at-eq0 c = let h : 0 < page (vol c.args.img.now 0) user_pointer = omega arith in place-later (pages c.args.img.now) (vol c.args.img.now) c.args.u h _ _ c.with_user_page.ensures _ c.with_subindex.ensures (omega arith)
