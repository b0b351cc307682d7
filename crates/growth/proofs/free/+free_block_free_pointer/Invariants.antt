-- `growth::free::free_block`, `growth::free::free_pointer` meet their contracts. Assumes nothing.
use mathlib.Core.Path.{◌≡◌}
use Prim.Native.Nat.{◌+◌, ◌*◌}
use lib.ListN.{length}
use Rattle.book.specs.Words.{vol}
use Rattle.book.specs.Bits.{freed}
use Rattle.book.specs.Image.{pages}
use Rattle.growth.proofs.Walks.{slots_of}
use Rattle.growth.proofs.free.+free_block_free_pointer.Given as goal

-- the level falls from a pointer to its block, and a block's pointers come before the block
abbrev pub decreases-free_block : goal.decreases-free_block
decreases-free_block l = 2 * l.level + 1

abbrev pub decreases-free_pointer : goal.decreases-free_pointer
decreases-free_pointer l = 2 * l.level

-- what the pointers passed name is freed
abbrev pub invariant-free_block-loop-i : goal.invariant-free_block-loop-i
invariant-free_block-loop-i l = (length l.img ≡ length l.initial.img) × (vol l.img ≡ freed (pages l.initial.img) (vol l.initial.img) (slots_of (vol l.initial.img) l.level l.t l.i))
