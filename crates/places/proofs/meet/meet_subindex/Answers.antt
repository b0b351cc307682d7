use Rattle.places.proofs.Steps.{sub-none, sub-skip, sub_open}
use Rattle.book.specs.Trees.{Below}
use Rattle.book.specs.Image.{pages}
use Rattle.book.specs.Words.{vol}
use native.Mathlib.Omega.{arith}
use Rattle.places.proofs.meet.meet_subindex.Goals as goal

pub returns-then-t-eq0 : goal.returns-then-t-eq0
returns-then-t-eq0 c = let P = pages c.args.img.now in let v = vol c.args.img.now in
    sub-none P v _ _ _ _ c.requires.1.size c.requires.2 c.args.t c.requires.0 c.if-t-eq0.true

pub open_block-requires : goal.open_block-requires
unfolding Below
open_block-requires c = (omega (arith, c.requires.1.few, c.requires.3.0), c.requires.2)

pub returns-then-not-open_block : goal.returns-then-not-open_block
unfolding Below
returns-then-not-open_block c = let P = pages c.args.img.now in let v = vol c.args.img.now in
    sub-skip P v _ _ _ _ c.requires.1.size c.requires.2 c.args.t c.requires.3.0 _ _ c.meet-low.ensures _ c.open_block.result c.open_block.ensures c.if-not-open_block.true-raw

pub returns : goal.returns
unfolding Below
returns c = let P = pages c.args.img.now in let v = vol c.args.img.now in
    sub_open P v _ _ _ _ c.requires.1.size c.requires.2 c.args.t c.requires.3.0 _ _ c.meet-low.ensures _ c.open_block.result c.open_block.ensures c.if-not-open_block.false-raw _ _ _ c.meet_indexes.ensures
