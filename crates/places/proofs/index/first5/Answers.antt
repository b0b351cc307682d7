use Rattle.places.proofs.Indexed.{found-by, found-neither}
use Rattle.heads.proofs.Heads.{users-reach, objects-inside}
use Rattle.book.specs.Image.{pages}
use Rattle.book.specs.Words.{vol}
use native.Mathlib.Omega.{arith}
use Rattle.places.proofs.index.first5.Goals as goal

pub index_block-requires : goal.index_block-requires
index_block-requires c = (
  record { count = c.requires.1; most = omega arith; inside = omega (arith, objects-inside _ _ c.requires.2 (omega arith), c.pointer_at-pointer.ensures.page.0) },
  users-reach _ (omega arith) c.requires.2 c.requires.3,
)

pub returns-then-pointer-eq-INDEXED : goal.returns-then-pointer-eq-INDEXED
returns-then-pointer-eq-INDEXED c = found-by (pages c.args.img.now) (vol c.args.img.now) c.pointer_at-pointer.result.flags c.pointer_at-pointer.result.page c.pointer_at-pointer.ensures.flags.0 c.pointer_at-pointer.ensures.page.0 c.index_block.result 1 (omega arith) c.index_block.ensures

pub subindex_block-requires : goal.subindex_block-requires
subindex_block-requires c = record { count = c.requires.1; most = omega arith; inside = omega (arith, objects-inside _ _ c.requires.2 (omega arith), c.pointer_at-pointer.ensures.page.0) }

pub returns-then-pointer-eq-SUBINDEXED : goal.returns-then-pointer-eq-SUBINDEXED
returns-then-pointer-eq-SUBINDEXED c = found-by (pages c.args.img.now) (vol c.args.img.now) c.pointer_at-pointer.result.flags c.pointer_at-pointer.result.page c.pointer_at-pointer.ensures.flags.0 c.pointer_at-pointer.ensures.page.0 c.subindex_block.result 2 (omega arith) c.subindex_block.ensures

pub returns : goal.returns
returns c = found-neither (pages c.args.img.now) (vol c.args.img.now) c.pointer_at-pointer.result.flags c.pointer_at-pointer.result.page c.pointer_at-pointer.ensures.flags.0 c.pointer_at-pointer.ensures.page.0 c.if-pointer-eq-INDEXED.false c.if-pointer-eq-SUBINDEXED.false
