-- `seek::users::user_two` meets its contract. Assumes nothing.
use mathlib.Core.Path.{ap, ◌∙◌}
use Rattle.book.specs.Words.{Words, vol, two}
use Rattle.tree.proofs.Entries.{user-in}
use Rattle.tree.proofs.Ready.{ready-users}
use Rattle.seek.proofs.users.user_two.Goals as goal

pub user_page-q-requires : goal.user_page-q-requires
user_page-q-requires c = ready-users _ c.requires.0

pub returns : goal.returns
returns c = (c.entry_two.ensures.0 ∙ ap (λ (w : Words). two w c.args.k) (user-in (vol c.args.img.now) c.args.u c.user_page-q.result c.user_page-q.ensures.0), c.entry_two.ensures.1)
