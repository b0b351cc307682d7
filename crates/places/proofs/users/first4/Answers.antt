use Rattle.places.proofs.Owners.{users-known}
use Rattle.book.specs.Places.{user_row, spots4}
use Rattle.book.specs.Spots.{each_first, each_all}
use Rattle.book.specs.Words.{vol}
use native.Mathlib.Omega.{arith}
use Rattle.places.proofs.users.first4.Goals as goal

pub any_user-requires : goal.any_user-requires
any_user-requires c = (users-known _ c.pointer_at-pointer.result.flags c.pointer_at-pointer.result.page c.requires.0 c.requires.1 c.requires.2 c.pointer_at-pointer.ensures.flags.0 c.pointer_at-pointer.ensures.page.0, omega arith)

pub returns-in-Some : goal.returns-in-Some
unfolding spots4
returns-in-Some c = each_first 256 (user_row c.args.ten (vol c.args.img.now)) _ c.loop-u.u (omega arith) c.loop-u.invariant c.in-Some.ensures

pub returns : goal.returns
unfolding spots4
returns c = each_all 256 c.loop-u.u (user_row c.args.ten (vol c.args.img.now)) (omega arith) c.loop-u.invariant
