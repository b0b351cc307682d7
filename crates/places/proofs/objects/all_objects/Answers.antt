use native.Mathlib.Omega.{arith}
use Rattle.book.specs.Spots.{each_first, each_all}
use Rattle.book.specs.Words.{vol}
use Rattle.places.specs.Rows.{object_row}
use Rattle.places.proofs.objects.all_objects.Goals as goal

pub returns-in-Some : goal.returns-in-Some
returns-in-Some c = each_first 256 (object_row (vol c.args.img.now) c.args.u) _ c.loop-f.f (omega arith) c.loop-f.invariant c.in-Some.ensures

pub returns : goal.returns
returns c = each_all 256 c.loop-f.f (object_row (vol c.args.img.now) c.args.u) (omega arith) c.loop-f.invariant
