-- `steps::format::set_run` meets its contract. Assumes nothing.
use Rattle.std.proofs.Common.{◌≡◌, ℕ, ◌+◌, ◌≤◌}
use Rattle.book.specs.Words.{vol}
use Rattle.book.specs.Format.{mark_run}
use Rattle.bits.specs.File.{BitsAt}
use Rattle.steps.proofs.format.set_run.Given as goal

-- the bits of the pages passed are set
abbrev pub invariant-loop-i : goal.invariant-loop-i
invariant-loop-i l = (P : ℕ) → BitsAt P (vol l.initial.img) l.b → l.b + l.n ≤ P → vol l.img ≡ mark_run P (vol l.initial.img) l.b l.i
