-- `steps::users::leave` meets its contract. Assumes nothing.
use Rattle.std.proofs.Common.{arith}
use Rattle.book.specs.Words.{vol}
use Rattle.steps.proofs.Ready.{ready-room}
use Rattle.tree.proofs.Ready.{ready-users}
use Rattle.steps.proofs.Written.{deleted-is}
use Rattle.steps.proofs.users.leave.Goals as goal

pub user_page-q-requires : goal.user_page-q-requires
user_page-q-requires c = ready-users _ c.requires.0

pub overflow_add-s : goal.overflow_add-s
overflow_add-s c = record { fits = omega (arith, ready-room _ c.requires.0 c.args.u c.requires.1 c.requires.2, c.requires.3, c.requires.4) }

pub returns : goal.returns
returns c =
    deleted-is (vol c.args.img.now) _ _ c.args.u c.user_page-q.result c.of-k.result.word c.user_page-q.ensures.0 c.of-k.ensures.1
    c.args.g c.args.s c.requires.3 c.requires.4 c.clear_entry.ensures c.put_two.ensures
