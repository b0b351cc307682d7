-- `seek::users::has_user` meets its contract. Assumes nothing.
use mathlib.Core.Path.{subst}
use Prim.Native.Nat.{◌<◌}
use Rattle.book.specs.Words.{Words, vol}
use Rattle.book.specs.Entries.{used}
use Rattle.book.specs.Decides.{Decides}
use Rattle.tree.proofs.Entries.{user-in}
use Rattle.tree.proofs.Ready.{ready-users}
use Rattle.seek.proofs.users.has_user.Goals as goal

pub user_page-q-requires : goal.user_page-q-requires
user_page-q-requires c = ready-users _ c.requires

pub returns : goal.returns
returns c = subst (λ (w : Words). Decides c.entry_used.result (0 < used w)) (user-in (vol c.args.img.now) c.args.u c.user_page-q.result c.user_page-q.ensures.0) c.entry_used.ensures
