use Rattle.places.proofs.Filed.{then_found}
use Rattle.book.specs.Places.{block_spots}
use Rattle.book.specs.Spots.{then-first}
use Rattle.places.proofs.file.subindex.Goals as goal

pub returns-in-Some : goal.returns-in-Some
unfolding block_spots
returns-in-Some c = then-first _ _ _ c.in-Some.ensures

pub returns : goal.returns
unfolding block_spots
returns c = then_found _ _ c.indexes.result c.in_default.ensures c.indexes.ensures
