use Prim.Native.Nat.{◌/◌}
use Rattle.book.specs.Words.{vol}
use Rattle.book.specs.Trees.{root_by}
use Rattle.book.specs.Decides.{holds, fails}
use Rattle.tree.proofs.Reach.{reach_page}
use Rattle.heads.proofs.Alike.{used-on}
use Rattle.heads.proofs.Hashed.{entry-unused, entry-stamped, entry-low, entry-high}
use native.Mathlib.Omega.{arith}
use Rattle.heads.proofs.twins.entry_apart.Goals as goal

pub entry_used-requires : goal.entry_used-requires
entry_used-requires c = omega (arith, c.requires.0.at, reach_page _ _ c.requires.0.reach (c.args.y / 32))

pub returns-then-not-entry_used : goal.returns-then-not-entry_used
returns-then-not-entry_used c = entry-unused (vol c.args.img.now) (root_by c.args.pointer.flags c.args.pointer.page 0) c.args.n c.args.base c.args.q c.args.y c.args.table.now c.requires.0.at c.requires.4 (fails c.entry_used.result _ c.entry_used.ensures c.if-not-entry_used.true-raw)

pub hash_of-h-requires : goal.hash_of-h-requires
hash_of-h-requires c = (c.requires.0.there, omega (arith, c.requires.0.at, reach_page _ _ c.requires.0.reach (c.args.y / 32)), c.requires.1)

pub returns-then-not-low : goal.returns-then-not-low
returns-then-not-low c = let v = vol c.args.img.now in let r = root_by c.args.pointer.flags c.args.pointer.page 0 in (
  entry-low v r c.args.n c.args.base c.args.q c.args.y c.args.table.now c.requires.0.at c.requires.4 c.hash_of-h.result c.stamp_of-s.result c.hash_of-h.ensures.0 c.hash_of-h.ensures.1 c.stamp_of-s.ensures _ c.stamp-low.ensures.1 (fails c.stamp-low.result _ c.stamp-low.ensures.0 c.if-not-low.true-raw),
  entry-stamped v r c.args.n c.args.base c.args.q c.args.y c.args.table.now c.requires.0.at c.requires.4 c.hash_of-h.result c.stamp_of-s.result c.hash_of-h.ensures.0 c.hash_of-h.ensures.1 c.stamp_of-s.ensures _ c.stamp-low.ensures.1 _ c.stamp-high.ensures.1,
)

pub returns-then-not-high : goal.returns-then-not-high
returns-then-not-high c = let v = vol c.args.img.now in let r = root_by c.args.pointer.flags c.args.pointer.page 0 in (
  entry-high v r c.args.n c.args.base c.args.q c.args.y c.args.table.now c.requires.0.at c.requires.4 c.hash_of-h.result c.stamp_of-s.result c.hash_of-h.ensures.0 c.hash_of-h.ensures.1 c.stamp_of-s.ensures _ c.stamp-low.ensures.1 (fails c.stamp-high.result _ c.stamp-high.ensures.0 c.if-not-high.true-raw),
  entry-stamped v r c.args.n c.args.base c.args.q c.args.y c.args.table.now c.requires.0.at c.requires.4 c.hash_of-h.result c.stamp_of-s.result c.hash_of-h.ensures.0 c.hash_of-h.ensures.1 c.stamp_of-s.ensures _ c.stamp-low.ensures.1 _ c.stamp-high.ensures.1,
)

pub fresh-requires : goal.fresh-requires
fresh-requires c =
    let u = holds c.entry_used.result _ c.entry_used.ensures c.if-not-entry_used.false-raw in
    (c.requires.0, omega (arith, u, used-on (vol c.args.img.now) (root_by c.args.pointer.flags c.args.pointer.page 0) c.args.q c.args.y c.requires.0.at), c.requires.1, c.requires.2)

pub returns : goal.returns
returns c = let v = vol c.args.img.now in let r = root_by c.args.pointer.flags c.args.pointer.page 0 in
    (c.fresh.ensures, entry-stamped v r c.args.n c.args.base c.args.q c.args.y c.args.table.now c.requires.0.at c.requires.4 c.hash_of-h.result c.stamp_of-s.result c.hash_of-h.ensures.0 c.hash_of-h.ensures.1 c.stamp_of-s.ensures _ c.stamp-low.ensures.1 _ c.stamp-high.ensures.1)
