-- `making::entry::object_entry` meets its contract. Assumes nothing.
use Rattle.book.specs.Words.{vol}
use Rattle.making.proofs.Fields.{object-entry-is}
use Rattle.making.proofs.entry.object_entry.Goals as goal

pub returns : goal.returns
returns c =
    object-entry-is (vol c.args.img.now) c.args.q c.of-k.result.word _ _ _ c.args.u c.args.e c.args.name.now c.args.kind.now c.args.created c.args.n c.args.ptr
    c.of-k.ensures.1 c.begin_entry.ensures c.put_text.ensures c.put_numbers.ensures
