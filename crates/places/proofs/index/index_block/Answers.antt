use Rattle.places.proofs.Indexed.{users-above, index-found}
use Rattle.book.specs.Image.{pages}
use Rattle.book.specs.Words.{vol}
use Rattle.book.specs.Decides.{holds, fails}
use Rattle.places.proofs.index.index_block.Goals as goal

pub returns-then-not-low_users : goal.returns-then-not-low_users
returns-then-not-low_users c = users-above (pages c.args.img.now) (vol c.args.img.now) c.args.t _ c.master_place.ensures (fails c.low_users.result _ c.low_users.ensures c.if-not-low_users.true-raw)

pub returns : goal.returns
returns c = index-found (pages c.args.img.now) (vol c.args.img.now) c.args.t c.block.result (holds c.low_users.result _ c.low_users.ensures c.if-not-low_users.false-raw) c.block.ensures
