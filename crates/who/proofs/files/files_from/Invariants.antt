-- `who::files::files_from` meets its contract. Assumes nothing.
use mathlib.Core.Path.{◌≡◌}
use Prim.Native.Nat.{ℕ, ◌+◌, ◌*◌, ◌≤◌}
use lib.ListN.{length}
use Rattle.book.specs.Words.{vol}
use Rattle.who.specs.Least.{Never}
use Rattle.who.specs.Turns.{file_page}
use Rattle.who.specs.Search.{Search}
use Rattle.who.proofs.files.files_from.Given as goal

abbrev pub invariant-loop-i : goal.invariant-loop-i
invariant-loop-i l = record {
  first : 8388608 * l.i ≤ l.from;
  last : l.from ≤ 8388608 * l.i + 8388608;
  on : l.x ≤ l.from;
  none : Never (λ (y : ℕ). file_page (vol l.img) l.class y ≡ l.p) l.x l.from;
  search : Search l.img l.p l.seen l.tops;
  kept : length l.seen ≡ length l.initial.seen;
  kept_tops : length l.tops ≡ length l.initial.tops;
}
