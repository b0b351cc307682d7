-- `convert::all::refill_one` meets its contract. Assumes nothing.
use Rattle.book.specs.Words.{vol}
use Rattle.book.specs.Decides.{holds, fails}
use Rattle.convert.proofs.Passes.{page-there, unused-stays, used-anew}
use Rattle.convert.proofs.all.refill_one.Goals as goal

pub returns-then-not-entry_used : goal.returns-then-not-entry_used
returns-then-not-entry_used c = unused-stays c.args.typed (vol c.args.img.now) c.page_of-p.result c.args.n c.page_of-p.ensures.0 c.args.mark (fails c.entry_used.result _ c.entry_used.ensures c.if-not-entry_used.true-raw)

pub refill_entry-requires : goal.refill_entry-requires
refill_entry-requires c = (page-there c.args.typed (vol c.args.img.now) c.page_of-p.result c.args.n c.page_of-p.ensures.0 (holds c.entry_used.result _ c.entry_used.ensures c.if-not-entry_used.false-raw), c.page_of-p.ensures.1)

pub returns : goal.returns
returns c = used-anew c.args.typed (vol c.args.img.now) c.page_of-p.result c.args.n c.page_of-p.ensures.0 c.args.mark (holds c.entry_used.result _ c.entry_used.ensures c.if-not-entry_used.false-raw) _ c.refill_entry.ensures
