-- `bits::search::lowest_free` meets its contract. Assumes nothing.
use mathlib.Core.Path.{◌∙◌}
use Rattle.book.specs.Words.{vol}
use Rattle.bits.proofs.Upwards.{from_zero}
use Rattle.bits.proofs.search.lowest_free.Goals as goal

pub returns : goal.returns
returns c = c.free_from.ensures ∙ from_zero c.args.pages (vol c.args.img.now)
