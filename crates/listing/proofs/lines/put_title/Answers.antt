-- `listing::lines::put_title` meets its contract. Assumes nothing.
use native.Mathlib.Omega.{arith}
use Rattle.book.specs.Listing.{file_title}
use Rattle.listing.proofs.Writing.{wrote_then}
use Rattle.listing.proofs.lines.put_title.Goals as goal

pub returns : goal.returns
unfolding file_title
returns c =
    let a = wrote_then (wrote_then c.put_field-z.ensures.0 c.put_bytes-z.ensures) c.put_entry_name-z.ensures.0 in (
      wrote_then (wrote_then a c.put_bytes-z-2.ensures) c.put_entry_name.ensures.0,
      omega arith,
    )
