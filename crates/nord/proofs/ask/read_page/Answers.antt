use Rattle.book.specs.Calls.{read_call}
use Rattle.nord.proofs.Part.{gives-shut}
use Rattle.nord.proofs.ask.read_page.Goals as goal

pub returns-in_default : goal.returns-in_default
unfolding read_call
returns-in_default c = gives-shut _ _ _ _ _ _ c.enter_file.ensures c.in_default.is _ c.empty.ensures
