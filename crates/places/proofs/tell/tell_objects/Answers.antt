use native.Mathlib.Omega.{arith}
use Rattle.laws.specs.Place.Lowest.{above2, above3, above5}
use Rattle.laws.specs.Count.Reach.{below-objects}
use Rattle.places.proofs.Telling.{told6, told7}
use Rattle.places.proofs.tell.tell_objects.Goals as goal

pub object_ends-ends-requires : goal.object_ends-ends-requires
object_ends-ends-requires c = record { some = omega (arith, c.requires.0.whole.least); below = below-objects _ _ (above2 _ _ _ _ c.requires.0.lowest (omega arith)).0 (above5 _ _ _ _ c.requires.0.lowest c.requires.1).0 }

pub first6-requires : goal.first6-requires
first6-requires c = (c.requires.0.whole, (above2 _ _ _ _ c.requires.0.lowest (omega arith)).0, (above3 _ _ _ _ c.requires.0.lowest (omega arith)).0, (above5 _ _ _ _ c.requires.0.lowest c.requires.1).0)

pub returns-in-6 : goal.returns-in-6
returns-in-6 c = told6 _ _ _ c.requires.0 c.first6.result _ c.in-6.is c.first6.ensures c.plain.ensures

pub first7-requires : goal.first7-requires
first7-requires c = (c.requires.0.whole, c.requires.2, (above2 _ _ _ _ c.requires.0.lowest (omega arith)).0, (above5 _ _ _ _ c.requires.0.lowest c.requires.1).0, c.object_ends-ends.ensures)

pub returns-in-7 : goal.returns-in-7
returns-in-7 c = told7 _ _ _ c.requires.0 c.first7.result _ c.in-7.is c.first7.ensures c.plain-in-7.ensures
