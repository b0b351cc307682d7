use Prim.Native.Nat.{◌+◌, ◌*◌}
use Rattle.book.specs.Image.{pages}
use Rattle.walk.specs.Walked.{WalkedOn}
use Rattle.walk.proofs.Walks.{row_of}
use Rattle.walk.proofs.Pointers.{slots_of}
use Rattle.walk.proofs.pages.+mark_block_mark_pointer.Given as goal

-- the level falls from a pointer to its block, and a block's pointers come before the block
abbrev pub decreases-mark_block : goal.decreases-mark_block
decreases-mark_block l = 2 * l.level + 1

abbrev pub decreases-mark_pointer : goal.decreases-mark_pointer
decreases-mark_pointer l = 2 * l.level

abbrev pub invariant-mark_block-loop-i : goal.invariant-mark_block-loop-i
invariant-mark_block-loop-i l = WalkedOn (pages l.img) l.initial.marks l.visited (row_of (slots_of l.img l.level l.block) l.i) l.marks l.v
