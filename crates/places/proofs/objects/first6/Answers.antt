use native.Mathlib.Omega.{arith}
use Rattle.book.specs.Places.{spots6}
use Rattle.book.specs.Spots.{each, each_first, each_all}
use Rattle.book.specs.Words.{vol}
use Rattle.places.specs.Rows.{object_row}
use Rattle.places.proofs.Owned.{objects-known}
use Rattle.places.proofs.objects.first6.Goals as goal

pub user_objects-requires : goal.user_objects-requires
user_objects-requires c = (objects-known c.args.img.now c.pointer_at-pointer.result.flags c.pointer_at-pointer.result.page c.requires.0 c.requires.1 c.requires.2 c.requires.3 c.pointer_at-pointer.ensures.flags.0 c.pointer_at-pointer.ensures.page.0, omega arith)

pub returns-in-Some : goal.returns-in-Some
unfolding spots6
returns-in-Some c = let v = vol c.args.img.now in
    each_first 256 (λ u. each 256 (object_row v u)) _ c.loop-u.u (omega arith) c.loop-u.invariant c.in-Some.ensures

pub returns : goal.returns
unfolding spots6
returns c = let v = vol c.args.img.now in each_all 256 c.loop-u.u (λ u. each 256 (object_row v u)) (omega arith) c.loop-u.invariant
