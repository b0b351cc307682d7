-- `seek::find::fits` meets its contract. Assumes nothing.
use Rattle.std.proofs.Common.{arith}
use Rattle.tree.proofs.Entries.{there-stored}
use Rattle.seek.proofs.find.fits.Goals as goal

pub returns-then-named_at : goal.returns-then-named_at
returns-then-named_at c = grind (arith, there-stored)

pub returns-else-named_at : goal.returns-else-named_at
returns-else-named_at c = grind (arith, there-stored)
