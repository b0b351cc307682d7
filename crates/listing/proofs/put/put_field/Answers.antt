-- `listing::put::put_field` meets its contract. Assumes nothing.
use native.Mathlib.Omega.{arith}
use Rattle.book.specs.Listing.{field}
use Rattle.listing.proofs.Writing.{wrote_then}
use Rattle.listing.proofs.put.put_field.Goals as goal

pub returns : goal.returns
unfolding field
returns c = (wrote_then c.put_bytes-z.ensures c.put_digits.ensures.0, omega arith)
