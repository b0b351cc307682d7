use Rattle.places.proofs.Filed.{slot-inside, block-found}
use Rattle.places.proofs.Finding.{found_at}
use Rattle.book.specs.Places.{pointers, Must}
use Rattle.book.specs.Spots.{each_first, each_all}
use Rattle.book.specs.Image.{pages}
use Rattle.book.specs.Pointers.{slot}
use Rattle.book.specs.Words.{vol}
use Prim.Native.Nat.{◌-◌, ◌*◌}
use native.Mathlib.Omega.{arith}
use Rattle.places.proofs.file.indexes.Goals as goal

pub block-requires : goal.block-requires
block-requires c =
    let h = slot-inside (pages c.args.img.now) (vol c.args.img.now) c.args.t c.args.m c.requires.1 c.loop-i.i (omega (arith, c.requires.2)) in
    record { count = c.requires.0.count; most = c.requires.0.most; inside = omega (arith, h, c.slot_at-b.ensures.0) }

pub returns-in-Some : goal.returns-in-Some
returns-in-Some c = let P = pages c.args.img.now in let v = vol c.args.img.now in
    each_first c.args.m (λ i. pointers v (slot v c.args.t i) (Must P (c.args.n - i * 512))) _ c.loop-i.i (omega arith) c.loop-i.invariant
    (found_at _ c.block.result (block-found P v c.slot_at-b.result (slot v c.args.t c.loop-i.i) (c.args.n - c.loop-i.i * 512) c.saturating_sub-k.result c.block.result c.slot_at-b.ensures.0 c.saturating_sub-k.ensures c.block.ensures) _ c.in-Some.is)

pub returns : goal.returns
returns c = let P = pages c.args.img.now in let v = vol c.args.img.now in
    each_all c.args.m c.loop-i.i (λ i. pointers v (slot v c.args.t i) (Must P (c.args.n - i * 512))) (omega arith) c.loop-i.invariant
