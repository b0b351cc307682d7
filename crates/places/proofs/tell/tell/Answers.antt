use native.Mathlib.Omega.{arith}
use Rattle.laws.specs.Place.Lowest.{above2, above3, least}
use Rattle.places.proofs.Telling.{told1, told2, told3, told4, told5}
use borrow.Author.Rules.{rules}
use Rattle.places.proofs.tell.tell.Goals as goal

pub returns-in-1 : goal.returns-in-1
returns-in-1 c = told1 _ _ _ c.requires c.first1.result _ c.in-1.is c.first1.ensures c.plain.ensures

pub returns-in-2 : goal.returns-in-2
returns-in-2 c = told2 _ _ _ c.requires c.first2.result _ c.in-2.is c.first2.ensures c.plain-in-2.ensures

pub first3-requires : goal.first3-requires
first3-requires c = (c.requires.whole, search rules, (above2 _ _ _ _ c.requires.lowest (omega arith)).0)

pub returns-in-3 : goal.returns-in-3
returns-in-3 c = told3 _ _ _ c.requires c.first3.result _ c.in-3.is c.first3.ensures c.plain-in-3.ensures

pub first4-requires : goal.first4-requires
first4-requires c = (c.requires.whole, (above2 _ _ _ _ c.requires.lowest (omega arith)).0, (above3 _ _ _ _ c.requires.lowest (omega arith)).0)

pub returns-in-4 : goal.returns-in-4
returns-in-4 c = told4 _ _ _ c.requires c.first4.result _ c.in-4.is c.first4.ensures c.plain-in-4.ensures

pub first5-requires : goal.first5-requires
first5-requires c = (c.requires.whole, search rules, (above2 _ _ _ _ c.requires.lowest (omega arith)).0, (above3 _ _ _ _ c.requires.lowest (omega arith)).0)

pub returns-in-5 : goal.returns-in-5
returns-in-5 c = told5 _ _ _ c.requires c.first5.result _ c.in-5.is c.first5.ensures c.plain-in-5.ensures

pub tell_objects-requires : goal.tell_objects-requires
tell_objects-requires c = (c.requires, omega (arith, least _ _ _ _ c.requires.lowest), search rules)
