-- `who::blocks::block_from` meets its contract. Assumes nothing.
use Rattle.book.specs.Words.{vol}
use Rattle.who.proofs.Passing.{search-block, least-vain}
use Rattle.who.proofs.blocks.block_from.Goals as goal

pub returns-then-is_none : goal.returns-then-is_none
returns-then-is_none c = (c.slots_from-found.ensures, search-block _ c.args.p _ _ c.requires.0 c.args.b _ c.mark.result c.mark.ensures (least-vain (vol c.args.img.now) c.args.p c.args.b c.args.n c.slots_from-found.result c.if-n-eq0.true c.if-is_none.ensures c.slots_from-found.ensures))
