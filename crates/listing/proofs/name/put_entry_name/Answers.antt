-- `listing::name::put_entry_name` meets its contract. Assumes nothing.
use Rattle.book.specs.Words.{vol}
use Rattle.listing.proofs.Writing.{wrote_as}
use Rattle.tree.proofs.Entries.{there-stored}
use Rattle.listing.proofs.name.put_entry_name.Goals as goal

pub returns : goal.returns
returns c = (wrote_as (there-stored (vol c.args.img.now) c.args.q c.args.n _ c.args.k c.args.m c.requires.0 c.of.ensures.1) c.put_name.ensures.0, c.put_name.ensures.1)
