-- `listing::lines::put_file` meets its contract. Assumes nothing.
use mathlib.Core.Path.{ap, ap₂}
use native.Mathlib.Omega.{arith}
use Rattle.book.specs.Decides.{holds, fails}
use Rattle.book.specs.Listing.{file_line, field, pages_are, kind_of}
use Rattle.listing.proofs.Writing.{wrote_none, wrote_as, wrote_then}
use Rattle.listing.proofs.Texts.{lines_none, lines-one}
use Rattle.listing.proofs.lines.put_file.Goals as goal

pub returns-then-not-entry_used : goal.returns-then-not-entry_used
returns-then-not-entry_used c = (wrote_as (lines_none _ _ (fails c.entry_used.result _ c.entry_used.ensures c.if-not-entry_used.true-raw)) (wrote_none _ _), omega arith)

pub returns : goal.returns
unfolding file_line
returns c =
    let p = wrote_then c.put_title-z.ensures.0 (wrote_as (ap (field pages_are) c.entry_two-n.ensures.0) c.put_field-z.ensures.0) in
    let k = wrote_then p (wrote_as (ap₂ kind_of c.entry_flags-flags.ensures.0 c.entry_two-n.ensures.0) c.put_kind-z.ensures.0) in (
      wrote_as (lines-one _ _ (holds c.entry_used.result _ c.entry_used.ensures c.if-not-entry_used.false-raw)) (wrote_then k c.put_bytes.ensures),
      omega arith,
    )
