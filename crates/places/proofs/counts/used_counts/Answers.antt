use Rattle.places.specs.Found.{count_row}
use Rattle.book.specs.Spots.{each_first, each_all}
use Rattle.book.specs.Words.{vol}
use native.Mathlib.Omega.{arith}
use Rattle.places.proofs.counts.used_counts.Goals as goal

pub returns-in-Some : goal.returns-in-Some
returns-in-Some c = each_first 256 (count_row (vol c.args.img.now)) _ c.loop-u.u (omega arith) c.loop-u.invariant c.in-Some.ensures

pub returns : goal.returns
returns c = each_all 256 c.loop-u.u (count_row (vol c.args.img.now)) (omega arith) c.loop-u.invariant
