-- `seek::users::given` meets its contract. Assumes nothing.
use Rattle.book.specs.Entries.{given}
use Rattle.seek.proofs.users.given.Goals as goal

pub returns : goal.returns
unfolding given
returns c = c.user_two.ensures
