-- `who::kinds::kinds_from` meets its contract. Assumes nothing.
use mathlib.Core.Path.{◌≡◌}
use Prim.Native.Nat.{ℕ, ◌+◌, ◌*◌, ◌≤◌, ◌<◌}
use lib.ListN.{length}
use Rattle.book.specs.Words.{vol}
use Rattle.book.specs.Image.{pages}
use Rattle.who.specs.Least.{Never}
use Rattle.who.specs.Turns.{turns, turn_page}
use Rattle.who.specs.Search.{Search}
use Rattle.who.proofs.kinds.kinds_from.Given as goal

abbrev pub invariant-loop-kind : goal.invariant-loop-kind
invariant-loop-kind l = record {
  part : l.from < turns;
  on : l.x ≤ turns * l.kind + l.from;
  none : Never (λ (y : ℕ). turn_page (pages l.img) (vol l.img) y ≡ l.p) l.x (turns * l.kind + l.from);
  search : Search l.img l.p l.seen l.tops;
  kept : length l.seen ≡ length l.initial.seen;
  kept_tops : length l.tops ≡ length l.initial.tops;
}
