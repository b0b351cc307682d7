-- `listing::order::put_files` meets its contract. Assumes nothing.
use mathlib.Core.Path.{◌≡◌, ap, ◌∙◌}
use Prim.Native.Nat.{◌+◌, ◌*◌}
use native.Mathlib.Omega.{arith}
use Rattle.book.specs.Words.{vol}
use Rattle.book.specs.Listing.{joined, file_of}
use Rattle.listing.proofs.Writing.{wrote_none, wrote_as, wrote_then}
use Rattle.listing.proofs.Texts.{joined-zero, joined-add}
use Rattle.listing.proofs.order.put_files.Goals as goal

pub loop-i-init : goal.loop-i-init
loop-i-init c = (omega arith, wrote_as (joined-zero _) (wrote_none _ _))

pub loop-i-preserved : goal.loop-i-preserved
loop-i-preserved c =
    let e : 32 * c.loop-i.i + 32 ≡ 32 * (c.loop-i.i + 1) = omega arith in
    let s = joined-add (file_of (vol c.args.img.now) c.args.u) (32 * c.loop-i.i) 32 ∙ ap (joined (file_of (vol c.args.img.now) c.args.u)) e in
    (omega arith, wrote_as s (wrote_then c.loop-i.invariant.1 c.put_page-z.ensures.0))
