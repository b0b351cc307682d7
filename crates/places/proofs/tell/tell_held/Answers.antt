use native.Mathlib.Omega.{arith}
use mathlib.Core.Path.{refl}
use Rattle.laws.specs.Place.Lowest.{above2}
use Rattle.places.proofs.Telling.{breaks-volume, first-held, held_place, told8}
use Rattle.places.proofs.tell.tell_held.Goals as goal

pub first8-requires : goal.first8-requires
first8-requires c = (breaks-volume _ _ _ c.requires.0 (omega arith), c.requires.1, c.requires.2)

pub first_two-first-requires : goal.first_two-first-requires
first_two-first-requires c = let d = first-held _ _ _ c.requires.0 refl c.first8.result c.first8.ensures c.place_of-place.result c.place_of-place.ensures in let q = held_place _ _ _ c.requires.0 _ d in (breaks-volume _ _ _ c.requires.0 (omega arith), (above2 _ _ _ _ c.requires.0.lowest (omega arith)).0, c.requires.2, q.0, q.1)

pub returns : goal.returns
returns c = let d = first-held _ _ _ c.requires.0 refl c.first8.result c.first8.ensures c.place_of-place.result c.place_of-place.ensures in told8 _ _ _ c.requires.0 refl _ d _ _ c.first_two-first.ensures
