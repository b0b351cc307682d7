use Rattle.places.proofs.Filed.{blocks-1, blocks-none, inside-1, inside-2}
use Rattle.book.specs.Image.{pages}
use Rattle.book.specs.Words.{vol}
use Rattle.places.proofs.file.blocks.Goals as goal

pub block-requires : goal.block-requires
block-requires c = record { count = c.requires.1; most = c.requires.2; inside = inside-1 (pages c.args.img.now) c.args.pointer.flags c.args.pointer.page c.args.n c.requires.0 c.if-pointer-eq1.true }

pub returns-then-pointer-eq1 : goal.returns-then-pointer-eq1
returns-then-pointer-eq1 c = blocks-1 (pages c.args.img.now) (vol c.args.img.now) c.args.pointer.flags c.args.pointer.page c.args.n c.block.result c.if-pointer-eq1.true c.block.ensures

pub subindex-requires : goal.subindex-requires
subindex-requires c = let i = inside-2 (pages c.args.img.now) c.args.pointer.flags c.args.pointer.page c.args.n c.requires.0 c.if-pointer-eq2.true in (record { count = c.requires.1; most = c.requires.2; inside = i.0 }, i.1)

pub returns : goal.returns
returns c = blocks-none (pages c.args.img.now) (vol c.args.img.now) c.args.pointer.flags c.args.pointer.page c.args.n c.if-pointer-eq1.false c.if-pointer-eq2.false
