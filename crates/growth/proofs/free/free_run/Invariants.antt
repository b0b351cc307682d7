-- `growth::free::free_run` meets its contract. Assumes nothing.
use mathlib.Core.Path.{◌≡◌}
use lib.ListN.{length}
use Rattle.book.specs.Words.{vol}
use Rattle.book.specs.Bits.{freed}
use Rattle.book.specs.Image.{pages}
use Rattle.growth.proofs.Walks.{run_of}
use Rattle.growth.proofs.free.free_run.Given as goal

-- the pages passed are freed
abbrev pub invariant-loop-i : goal.invariant-loop-i
invariant-loop-i l = (length l.img ≡ length l.initial.img) × (vol l.img ≡ freed (pages l.initial.img) (vol l.initial.img) (run_of l.s l.i))
