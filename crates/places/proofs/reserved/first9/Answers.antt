use Rattle.places.proofs.Bits.{bit-right, bit-wrong}
use Rattle.book.specs.Places.{bit_row, spots9}
use Rattle.book.specs.Spots.{passed-more, each_first, each_all}
use Rattle.book.specs.Image.{pages}
use Rattle.book.specs.Words.{vol}
use Prim.Native.Nat.{◌<◌}
use native.Mathlib.Omega.{arith}
use Rattle.places.proofs.reserved.first9.Goals as goal

pub returns-then-test-mark_of : goal.returns-then-test-mark_of
unfolding spots9
returns-then-test-mark_of c = let h : c.loop-p.p < pages c.args.img.now = omega (arith, c.requires.count) in
    each_first _ (bit_row (pages c.args.img.now) (vol c.args.img.now)) _ c.loop-p.p h c.loop-p.invariant
    (bit-wrong _ c.args.total c.args.b _ c.requires c.loop-p.p h _ c.bit_place.ensures (λ e. omega (arith, e, c.test.ensures.0 _ c.requires.bits h, c.mark_of.ensures.0)))

pub loop-p-preserved : goal.loop-p-preserved
loop-p-preserved c = let h : c.loop-p.p < pages c.args.img.now = omega (arith, c.requires.count) in
    passed-more (bit_row (pages c.args.img.now) (vol c.args.img.now)) c.loop-p.p c.loop-p.invariant (bit-right _ c.args.total c.args.b _ c.requires c.loop-p.p h (omega (arith, c.test.ensures.0 _ c.requires.bits h, c.mark_of.ensures.0)))

pub returns : goal.returns
unfolding spots9
returns c = each_all _ c.loop-p.p (bit_row (pages c.args.img.now) (vol c.args.img.now)) (omega (arith, c.requires.count)) c.loop-p.invariant
