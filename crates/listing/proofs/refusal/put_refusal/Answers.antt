-- `listing::refusal::put_refusal` meets its contract. Assumes nothing.
use mathlib.Core.Path.{ap}
use Rattle.book.specs.Listing.{field, refused_is}
use Rattle.listing.proofs.Reports.{refused-unsound, refused-other}
use Rattle.listing.proofs.Writing.{wrote_as, wrote_then}
use Rattle.listing.proofs.refusal.put_refusal.Goals as goal

pub returns-in-Unsound : goal.returns-in-Unsound
returns-in-Unsound c =
    let n = wrote_as (ap (field refused_is) c.number_of.ensures) c.put_field-z.ensures.0 in
    wrote_as (refused-unsound c.args.why _ c.in-Unsound.is) (wrote_then (wrote_then n c.put_field-e.ensures.0) c.put_bytes.ensures)

pub returns-in_default : goal.returns-in_default
returns-in_default c =
    let n = wrote_as (ap (field refused_is) c.number_of.ensures) c.put_field-z.ensures.0 in
    wrote_as (refused-other c.args.why c.in_default.not-Unsound) (wrote_then n c.put_bytes-in_default.ensures)
