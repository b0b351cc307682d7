-- `listing::order::put_listing` meets its contract. Assumes nothing.
use mathlib.Core.Path.{◌≡◌, ap}
use native.Mathlib.Omega.{arith}
use Rattle.book.specs.Words.{vol}
use Rattle.book.specs.Listing.{joined, user_lines, listing}
use Rattle.listing.proofs.Writing.{wrote_none, wrote_as, wrote_then}
use Rattle.listing.proofs.Texts.{joined-zero, joined-one}
use Rattle.listing.proofs.order.put_listing.Goals as goal

pub loop-u-init : goal.loop-u-init
loop-u-init c = (omega arith, wrote_as (joined-zero _) (wrote_none _ _))

pub loop-u-preserved : goal.loop-u-preserved
loop-u-preserved c = (omega arith, wrote_as (joined-one (user_lines (vol c.args.img.now)) c.loop-u.u) (wrote_then c.loop-u.invariant.1 c.put_user_lines-z.ensures.0))

pub returns : goal.returns
unfolding listing
returns c =
    let e : c.loop-u.u ≡ 256 = omega arith in
    wrote_then c.put_head-z.ensures.0 (wrote_as (ap (joined (user_lines (vol c.args.img.now))) e) c.loop-u.invariant.1)
