-- `making::place::with_user_page` meets its contract. Assumes nothing.
use Prim.Native.Nat.{ℕ}
use Rattle.book.specs.Entries.{user_page, entry_page}
use Rattle.book.specs.Image.{pages}
use Rattle.book.specs.Words.{vol}
use Rattle.laws.specs.Create.Vacant.{Vacant}
use Rattle.making.proofs.Between.{user-room, page-kept, page-new}
use Rattle.tree.proofs.Ready.{ready-users, ready-some}
use mathlib.Core.Path.{refl, sym, subst, ◌≡◌}
use native.Mathlib.Omega.{arith}
use Rattle.making.proofs.place.with_user_page.Goals as goal

pub user_page-requires : goal.user_page-requires
user_page-requires c = ready-users _ c.requires.0

pub returns-else-user_page-eq0 : goal.returns-else-user_page-eq0
returns-else-user_page-eq0 c = page-kept (pages c.args.img.now) (vol c.args.img.now) c.args.u (omega arith)

pub extend-requires : goal.extend-requires
extend-requires c =
    let z : user_page (vol c.args.img.now) c.args.u ≡ 0 = omega arith in
    (c.requires.0, subst (λ (x : ℕ). Vacant (pages c.args.img.now) (vol c.args.img.now) x (entry_page c.args.u)) (sym c.page_at-top.ensures.0) (user-room (pages c.args.img.now) (vol c.args.img.now) c.requires.0.sound (ready-some _ c.requires.0) c.args.u c.requires.1 c.requires.2 z), omega (arith, z))

pub returns-then-user_page-eq0 : goal.returns-then-user_page-eq0
returns-then-user_page-eq0 c =
    let z : user_page (vol c.args.img.now) c.args.u ≡ 0 = omega arith in
    page-new (pages c.args.img.now) (vol c.args.img.now) c.args.u z c.page_at-top.result (entry_page c.args.u) c.page_at-top.ensures.0 refl _ c.extend.ensures
