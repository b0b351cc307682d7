-- `making::entry::begin_entry` meets its contract. Assumes nothing.
use Rattle.book.specs.Words.{vol}
use Rattle.making.proofs.Fields.{begun-is}
use Rattle.making.proofs.entry.begin_entry.Goals as goal

pub returns : goal.returns
returns c = begun-is (vol c.args.img.now) c.args.q c.args.k _ _ _ c.args.name.now c.clear_entry.ensures c.put_word.ensures c.put_text.ensures
