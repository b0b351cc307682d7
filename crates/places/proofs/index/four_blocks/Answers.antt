use Rattle.places.proofs.Pointed.{pointers-found, pointers-below}
use Rattle.places.proofs.Finding.{found_at}
use Rattle.book.specs.Places.{May, pointers}
use Rattle.book.specs.Spots.{each_first, each_all}
use Rattle.book.specs.Pointers.{slot}
use Rattle.book.specs.Image.{pages}
use Rattle.book.specs.Words.{vol}
use mathlib.Core.Path.{refl}
use native.Mathlib.Omega.{arith}
use Rattle.places.proofs.index.four_blocks.Goals as goal

pub block-requires : goal.block-requires
block-requires c = record { count = c.requires.0.count; most = c.requires.0.most; inside = omega (arith, pointers-below (pages c.args.img.now) (vol c.args.img.now) 0 c.args.t 4 c.requires.1 c.loop-i.i (omega arith), c.slot_at-b.ensures.0) }

pub returns-in-Some : goal.returns-in-Some
returns-in-Some c = let P = pages c.args.img.now in let v = vol c.args.img.now in
    each_first 4 (λ k. pointers v (slot v c.args.t k) (May P 512)) _ c.loop-i.i (omega arith) c.loop-i.invariant
    (found_at _ c.block.result (pointers-found P v 0 c.slot_at-b.result (slot v c.args.t c.loop-i.i) 512 512 c.block.result c.slot_at-b.ensures.0 refl c.block.ensures) _ c.in-Some.is)

pub returns : goal.returns
returns c = let P = pages c.args.img.now in let v = vol c.args.img.now in
    each_all 4 c.loop-i.i (λ k. pointers v (slot v c.args.t k) (May P 512)) (omega arith) c.loop-i.invariant
