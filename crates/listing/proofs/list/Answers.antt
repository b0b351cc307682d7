-- `listing::list` meets its contract. Assumes nothing.
use Rattle.listing.proofs.Reports.{reported-shut, reported-open}
use Rattle.listing.proofs.list.Goals as goal

pub returns-in-Err : goal.returns-in-Err
returns-in-Err c = reported-shut _ _ _ _ c.gate.result c.gate.ensures c.in-Err.is c.put_refusal.ensures

pub returns-in-Ok : goal.returns-in-Ok
returns-in-Ok c = reported-open _ _ _ _ c.gate.result c.gate.ensures c.in-Ok.is c.put_listing.ensures
