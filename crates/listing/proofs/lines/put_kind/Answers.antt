-- `listing::lines::put_kind` meets its contract. Assumes nothing.
use native.Mathlib.Omega.{arith}
use Rattle.listing.proofs.Writing.{wrote_as}
use Rattle.listing.proofs.Texts.{kind-index, kind-subindex, kind-empty, kind-contiguous}
use Rattle.listing.proofs.lines.put_kind.Goals as goal

pub returns-in-1 : goal.returns-in-1
returns-in-1 c = (wrote_as (kind-index _ _ c.in-1.is) c.put_bytes.ensures, omega arith)

pub returns-in-0 : goal.returns-in-0
returns-in-0 c = (wrote_as (kind-empty _ _ c.in-0.is c.if-n-eq0.true) c.put_bytes-in-0.ensures, omega arith)

pub returns-in-0-2 : goal.returns-in-0-2
returns-in-0-2 c = (wrote_as (kind-contiguous _ _ c.in-0.is c.if-n-eq0.false) c.put_bytes-in-0-2.ensures, omega arith)

pub returns-in_default : goal.returns-in_default
returns-in_default c = (wrote_as (kind-subindex _ _ (omega arith) (omega arith)) c.put_bytes-in_default.ensures, omega arith)
