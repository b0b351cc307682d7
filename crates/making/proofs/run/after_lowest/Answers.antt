-- `making::run::after_lowest` meets its contract. Assumes nothing.
use mathlib.Core.Path.{refl}
use native.Mathlib.Numerals.{add-one}
use native.Mathlib.Omega.{arith}
use Rattle.book.specs.Words.{vol}
use Rattle.bits.proofs.Upwards.{from-most}
use Rattle.making.specs.Spent.{after_lowest}
use Rattle.making.proofs.run.after_lowest.Goals as goal

pub loop-init : goal.loop-init
unfolding after_lowest
loop-init c = refl

pub overflow_add-s : goal.overflow_add-s
overflow_add-s c = omega (arith, from-most c.args.count (vol c.args.img.now) c.loop.s)

pub loop-preserved : goal.loop-preserved
unfolding after_lowest
loop-preserved c = rw (add-one c.loop.counter, add-one c.free_from-s.result) cc
