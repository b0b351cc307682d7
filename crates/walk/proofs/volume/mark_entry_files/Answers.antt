-- `walk::volume::mark_entry_files` meets its contract. Assumes nothing.
use Rattle.walk.proofs.Walks.{walking_on}
use Rattle.walk.proofs.Holding.{users-counts}
use Rattle.walk.proofs.volume.mark_entry_files.Goals as goal

pub mark_objects-requires : goal.mark_objects-requires
mark_objects-requires c = (walking_on c.args.img.now c.args.marks.now c.args.visited _ _ _ c.requires.0 (users-counts c.args.img.now c.requires.1) c.in_ok-n.ensures, c.requires.1, c.requires.2)
