use Rattle.places.proofs.Indexed.{subindex-wrong, indexes-found}
use Rattle.book.specs.Image.{pages}
use Rattle.book.specs.Words.{vol}
use Rattle.places.proofs.index.subindex_block.Goals as goal

pub returns-in-Some : goal.returns-in-Some
returns-in-Some c = subindex-wrong (pages c.args.img.now) (vol c.args.img.now) c.args.t _ c.in-Some.ensures

pub returns : goal.returns
returns c = indexes-found (pages c.args.img.now) (vol c.args.img.now) c.args.t c.four_blocks.result c.in_default.ensures c.four_blocks.ensures
