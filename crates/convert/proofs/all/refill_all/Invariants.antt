-- `convert::all::refill_all` meets its contract. Assumes nothing.
use mathlib.Core.Path.{◌≡◌}
use lib.ListN.{length}
use Rattle.book.specs.Words.{vol}
use Rattle.book.specs.Convert.{remake_all}
use Rattle.convert.specs.Kinds.{file_of, refilled_entry}
use Rattle.convert.proofs.all.refill_all.Given as goal

-- the entries passed are made anew
abbrev pub invariant-loop-n : goal.invariant-loop-n
invariant-loop-n l = (length l.img ≡ length l.initial.img) × (vol l.img ≡ remake_all (file_of l.typed) (refilled_entry l.typed l.mark) (vol l.initial.img) l.n)
