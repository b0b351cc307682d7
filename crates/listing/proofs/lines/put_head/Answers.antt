-- `listing::lines::put_head` meets its contract. Assumes nothing.
use mathlib.Core.Path.{ap}
use native.Mathlib.Omega.{arith}
use Rattle.book.specs.Listing.{head_line, field, reserved_are, unreserved_are}
use Rattle.listing.proofs.Writing.{wrote_as, wrote_then}
use Rattle.listing.proofs.lines.put_head.Goals as goal

pub returns : goal.returns
unfolding head_line
returns c =
    let w = wrote_then c.put_bytes-z.ensures c.put_name-z.ensures.0 in
    let p = wrote_then w c.put_field-z.ensures.0 in
    let r = wrote_then p (wrote_as (ap (field reserved_are) c.reserved-held.ensures) c.put_field-z-2.ensures.0) in
    let x = wrote_then r (wrote_as (ap (field unreserved_are) c.unreserved-left.ensures.0) c.put_field-z-3.ensures.0) in
    (wrote_then x c.put_bytes.ensures, omega arith)
