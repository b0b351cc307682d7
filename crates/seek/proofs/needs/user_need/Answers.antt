-- `seek::needs::user_need` meets its contract. Assumes nothing.
use mathlib.Core.Path.{sym, ◌∙◌}
use Prim.Native.Nat.{◌+◌, ◌-◌}
use Rattle.sums.specs.Search.{pick_yes, pick_no}
use Rattle.book.specs.Words.{vol}
use Rattle.book.specs.Entries.{user_page}
use Rattle.book.specs.Pointers.{page, user_pointer}
use Rattle.book.specs.Create.{user_need, raises}
use Rattle.tree.proofs.Ready.{ready-users}
use native.Mathlib.Omega.{arith}
use Rattle.seek.proofs.needs.user_need.Goals as goal

pub returns-then-page_at-eq0 : goal.returns-then-page_at-eq0
unfolding user_need
returns-then-page_at-eq0 c = (sym (pick_no _ _ 3 (sym c.page_at.ensures.0 ∙ c.if-page_at-eq0.true)), omega arith)

pub user_page-requires : goal.user_page-requires
user_page-requires c = ready-users _ c.requires

pub returns : goal.returns
unfolding user_need
returns c =
    let v = vol c.args.img.now in
    omega (arith, pick_yes (page (v 0) user_pointer) (1 - user_page v c.args.u + raises v c.args.u) 3 (omega (arith, c.page_at.ensures.0)))
