-- `who::files::page_from` meets its contract. Assumes nothing.
use mathlib.Core.Path.{◌≡◌}
use Prim.Native.Nat.{ℕ, ◌+◌, ◌*◌, ◌≤◌, ◌<◌}
use lib.ListN.{length}
use Rattle.book.specs.Words.{vol}
use Rattle.who.specs.Least.{Never}
use Rattle.who.specs.Turns.{positions, file_page}
use Rattle.who.specs.Search.{Search}
use Rattle.who.proofs.files.page_from.Given as goal

abbrev pub invariant-loop-e : goal.invariant-loop-e
invariant-loop-e l = record {
  part : l.from < positions;
  on : l.x ≤ positions * l.e + l.from;
  none : Never (λ (y : ℕ). file_page (vol l.img) l.class y ≡ l.p) l.x (positions * l.e + l.from);
  search : Search l.img l.p l.seen l.tops;
  kept : length l.seen ≡ length l.initial.seen;
  kept_tops : length l.tops ≡ length l.initial.tops;
}
