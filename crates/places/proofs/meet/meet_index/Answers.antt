use Rattle.places.proofs.Steps.{index-none, index-skip, index-open}
use Rattle.book.specs.Image.{pages}
use Rattle.book.specs.Words.{vol}
use Rattle.places.proofs.meet.meet_index.Goals as goal

pub returns-then-t-eq0 : goal.returns-then-t-eq0
returns-then-t-eq0 c = let P = pages c.args.img.now in let v = vol c.args.img.now in
    index-none P v _ _ _ c.args.t c.requires.1.size c.requires.0 c.if-t-eq0.true

pub returns-then-not-open_block : goal.returns-then-not-open_block
returns-then-not-open_block c = let P = pages c.args.img.now in let v = vol c.args.img.now in
    index-skip P v _ _ _ c.args.t c.requires.1.size c.requires.2 _ _ c.meet-low.ensures _ c.open_block.result c.open_block.ensures c.if-not-open_block.true-raw

pub returns : goal.returns
returns c = let P = pages c.args.img.now in let v = vol c.args.img.now in
    index-open P v _ _ _ c.args.t c.requires.1.size c.requires.2 _ _ c.meet-low.ensures _ c.open_block.result c.open_block.ensures c.if-not-open_block.false-raw _ _ c.meet_pages.ensures
