-- `bits::set` meets its contract. Assumes nothing.
use Rattle.bits.proofs.Places.{mark-is}
use Rattle.bits.proofs.set.Goals as goal

pub returns : goal.returns
returns c = λ P f h.
    mark-is P _ _ c.args.b c.args.p 1 _ _ f h c.word_from-w.ensures c.with_one.ensures c.put_from.ensures
