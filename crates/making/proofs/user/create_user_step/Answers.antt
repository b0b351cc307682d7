-- `making::user::create_user_step` meets its contract. Assumes nothing.
use Rattle.book.specs.Image.{pages}
use Rattle.book.specs.Words.{vol}
use Rattle.making.proofs.Made.{user-ready, create-user-is}
use Rattle.tree.proofs.Ready.{ready-users}
use native.Mathlib.Omega.{arith}
use Rattle.making.proofs.user.create_user_step.Goals as goal

pub user_place-requires : goal.user_place-requires
user_place-requires c = (c.requires.0, c.requires.2, c.requires.3)

pub user_page-q-requires : goal.user_page-q-requires
user_page-q-requires c = ready-users _ (user-ready c.args.img.now _ c.requires.0 c.args.u c.requires.1 c.requires.2 c.requires.3 c.user_place.ensures (omega arith))

pub user_entry-requires : goal.user_entry-requires
user_entry-requires c = (omega arith, c.requires.2)

pub returns : goal.returns
returns c = create-user-is (pages c.args.img.now) (vol c.args.img.now) c.args.u c.args.name.now c.requires.1 _ _ c.user_page-q.result c.user_place.ensures c.user_page-q.ensures.0 c.user_entry.ensures
