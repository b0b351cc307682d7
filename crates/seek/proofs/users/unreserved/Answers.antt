-- `seek::users::unreserved` meets its contract. Assumes nothing.
use Rattle.book.specs.Entries.{unreserved}
use Rattle.seek.proofs.users.unreserved.Goals as goal

pub returns : goal.returns
unfolding unreserved
returns c = c.two_at.ensures
