-- `bits::clear` meets its contract. Assumes nothing.
use Rattle.bits.proofs.Places.{mark-is}
use Rattle.bits.proofs.clear.Goals as goal

pub returns : goal.returns
returns c = λ P f h.
    mark-is P _ _ c.args.b c.args.p 0 _ _ f h c.word_from-w.ensures c.with_zero.ensures c.put_from.ensures
