-- `making::entry::user_entry` meets its contract. Assumes nothing.
use Rattle.book.specs.Words.{vol}
use Rattle.making.proofs.Fields.{user-entry-is}
use Rattle.making.proofs.entry.user_entry.Goals as goal

pub returns : goal.returns
returns c = user-entry-is (vol c.args.img.now) c.args.q c.of-k.result.word _ _ c.args.u c.args.name.now c.of-k.ensures.1 c.begin_entry.ensures c.put_word.ensures
