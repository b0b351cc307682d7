use Rattle.places.proofs.Pointed.{slot_row, slot-right, slot-wrong}
use Rattle.book.specs.Places.{pointers}
use Rattle.book.specs.Spots.{passed-more, each_first, each_all}
use Rattle.book.specs.Decides.{holds, fails}
use Rattle.book.specs.Image.{pages}
use Rattle.book.specs.Words.{vol}
use native.Mathlib.Omega.{arith}
use Rattle.places.proofs.block.block.Goals as goal

pub returns-then-not-filled : goal.returns-then-not-filled
unfolding pointers
returns-then-not-filled c = let P = pages c.args.img.now in let v = vol c.args.img.now in
    each_first 512 (slot_row P v c.args.b c.args.least c.args.m) _ c.loop-s.s (omega arith) c.loop-s.invariant
    (slot-wrong P c.args.total c.requires.count v c.args.b c.args.least c.args.m c.loop-s.s c.slot_at-x.result c.slot_at-x.ensures.0 _ c.slot_place.ensures (fails c.filled.result _ c.filled.ensures c.if-not-filled.true-raw))

pub loop-s-preserved : goal.loop-s-preserved
loop-s-preserved c = let P = pages c.args.img.now in let v = vol c.args.img.now in
    passed-more (slot_row P v c.args.b c.args.least c.args.m) c.loop-s.s c.loop-s.invariant (slot-right P c.args.total c.requires.count v c.args.b c.args.least c.args.m c.loop-s.s c.slot_at-x.result c.slot_at-x.ensures.0 (holds c.filled.result _ c.filled.ensures c.if-not-filled.false-raw))

pub returns : goal.returns
unfolding pointers
returns c = let P = pages c.args.img.now in let v = vol c.args.img.now in
    each_all 512 c.loop-s.s (slot_row P v c.args.b c.args.least c.args.m) (omega arith) c.loop-s.invariant
