-- `who::blocks::tree_from` meets its contract. Assumes nothing.
use Prim.Native.Nat.{◌+◌, ◌*◌}
use native.Mathlib.Omega.{arith}
use Rattle.book.specs.Words.{vol}
use Rattle.who.proofs.Passing.{search-tree, slots-all, under-past, under-vain}
use Rattle.who.proofs.Classes.{two-below}
use Rattle.who.proofs.blocks.tree_from.Goals as goal

pub mark_of-requires : goal.mark_of-requires
mark_of-requires c = omega (arith, (two-below c.args.img.now c.args.t 0 c.requires.1 (omega arith)).0, c.requires.0.trees.room)

pub slot_at-b-requires : goal.slot_at-b-requires
slot_at-b-requires c = (omega (arith, (two-below c.args.img.now c.args.t 0 c.requires.1 (omega arith)).0), omega (arith, c.requires.2.most))

pub block_from-requires : goal.block_from-requires
block_from-requires c = (
  c.loop-k.invariant.search,
  omega (arith, c.slot_at-b.ensures.0, (two-below c.args.img.now c.args.t c.loop-k.k c.requires.1 (omega (arith, c.requires.2.most))).1),
  slots-all _ _,
  omega (arith, c.loop-k.invariant.part),
)

pub mark-requires : goal.mark-requires
mark-requires c = omega (arith, (two-below c.args.img.now c.args.t 0 c.requires.1 (omega arith)).0, c.requires.0.trees.room)

pub returns-then-n-eq0 : goal.returns-then-n-eq0
returns-then-n-eq0 c =
    let v = vol c.args.img.now in let past = under-past v c.args.p c.args.t c.args.n c.args.z (512 * c.loop-k.k + c.loop-k.from) c.requires.0.page c.requires.2 (omega arith) c.loop-k.invariant.none in
    (past, search-tree _ c.args.p _ _ c.loop-k.invariant.search c.args.t _ c.mark.result c.mark.ensures (under-vain v c.args.p c.args.t c.args.n c.if-n-eq0.true past))

pub returns-else-n-eq0 : goal.returns-else-n-eq0
returns-else-n-eq0 c = (under-past (vol c.args.img.now) c.args.p c.args.t c.args.n c.args.z (512 * c.loop-k.k + c.loop-k.from) c.requires.0.page c.requires.2 (omega arith) c.loop-k.invariant.none, c.loop-k.invariant.search)
