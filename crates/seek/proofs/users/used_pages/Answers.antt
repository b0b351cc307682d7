-- `seek::users::used_pages` meets its contract. Assumes nothing.
use Rattle.book.specs.Entries.{used_pages}
use Rattle.seek.proofs.users.used_pages.Goals as goal

pub returns : goal.returns
unfolding used_pages
returns c = c.user_two.ensures
