-- `listing::order::put_user_lines` meets its contract. Assumes nothing.
use native.Mathlib.Omega.{arith}
use Rattle.book.specs.Words.{vol}
use Rattle.book.specs.Decides.{holds, fails}
use Rattle.listing.proofs.Writing.{wrote_none, wrote_as, wrote_then}
use Rattle.listing.proofs.Texts.{user-none, user-one}
use Rattle.listing.proofs.order.put_user_lines.Goals as goal

pub returns-then-not-has_user : goal.returns-then-not-has_user
returns-then-not-has_user c = (wrote_as (user-none (vol c.args.img.now) c.args.u (fails c.has_user.result _ c.has_user.ensures c.if-not-has_user.true-raw)) (wrote_none _ _), omega arith)

pub returns : goal.returns
returns c = (
  wrote_as (user-one (vol c.args.img.now) c.args.u (holds c.has_user.result _ c.has_user.ensures c.if-not-has_user.false-raw)) (wrote_then c.put_user-z.ensures.0 c.put_files.ensures.0),
  omega arith,
)
