-- `making::run::after_lowest` meets its contract. Assumes nothing.
use mathlib.Core.Path.{◌≡◌}
use Rattle.book.specs.Words.{vol}
use Rattle.making.specs.Spent.{after_lowest}
use Rattle.making.proofs.run.after_lowest.Given as goal

abbrev pub invariant-loop : goal.invariant-loop
invariant-loop l = l.s ≡ after_lowest l.count (vol l.img) l.counter
