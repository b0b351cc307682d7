-- `who::blocks::tree_from` meets its contract. Assumes nothing.
use mathlib.Core.Path.{◌≡◌}
use Prim.Native.Nat.{ℕ, ◌+◌, ◌*◌, ◌≤◌, ◌<◌}
use lib.ListN.{length}
use Rattle.book.specs.Words.{vol}
use Rattle.who.specs.Least.{Never}
use Rattle.who.specs.Search.{Search}
use Rattle.who.proofs.Passing.{under}
use Rattle.who.proofs.blocks.tree_from.Given as goal

abbrev pub invariant-loop-k : goal.invariant-loop-k
invariant-loop-k l = record {
  part : l.from < 512;
  on : l.n ≤ 512 * l.k + l.from;
  none : Never (λ (i : ℕ). under (vol l.img) l.t i ≡ l.p) l.n (512 * l.k + l.from);
  search : Search l.img l.p l.seen l.tops;
  kept : length l.seen ≡ length l.initial.seen;
}
