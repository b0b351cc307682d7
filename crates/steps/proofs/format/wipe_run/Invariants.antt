-- `steps::format::wipe_run` meets its contract. Assumes nothing.
use Rattle.std.proofs.Common.{◌≡◌}
use Rattle.book.specs.Words.{vol}
use Rattle.book.specs.Format.{wipe_run}
use Rattle.steps.proofs.format.wipe_run.Given as goal

-- the pages passed are zeros
abbrev pub invariant-loop-i : goal.invariant-loop-i
invariant-loop-i l = vol l.img ≡ wipe_run (vol l.initial.img) l.b l.i
