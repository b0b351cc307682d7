-- `listing::put::put_bytes` meets its contract. Assumes nothing.
use Rattle.listing.proofs.Writing.{bytes-more}
use Rattle.listing.proofs.put.put_bytes.Goals as goal

pub loop-i-preserved : goal.loop-i-preserved
loop-i-preserved c = bytes-more c.args.s.now c.args.out.now c.loop-i.out c.put.new.out c.args.at c.loop-i.i c.loop-i-test.true c.loop-i.invariant c.put.ensures
