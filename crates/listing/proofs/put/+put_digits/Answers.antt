-- `listing::put::put_digits` meets its contract. Assumes nothing.
use mathlib.Core.Path.{refl}
use native.Mathlib.Omega.{arith}
use Rattle.listing.proofs.Writing.{wrote_none, wrote_as, wrote-byte, wrote_then}
use Rattle.listing.proofs.Texts.{digits-none, digits_last, digits_more}
use Rattle.listing.proofs.put.+put_digits.Goals as goal

pub returns-then-k-eq0 : goal.returns-then-k-eq0
returns-then-k-eq0 t c =
    (wrote_as (digits-none _ _ c.if-k-eq0.true) (wrote_none _ _), omega arith)

pub returns-then-n-lt10 : goal.returns-then-n-lt10
returns-then-n-lt10 t c =
    (wrote_as (digits_last _ _ c.if-k-eq0.false c.if-n-lt10.true) (wrote-byte c.put.ensures refl), omega arith)

pub returns : goal.returns
returns t c =
    (wrote_as (digits_more _ _ c.if-k-eq0.false c.if-n-lt10.false) (wrote_then c.put_digits-z.ensures.0 (wrote-byte c.put-2.ensures refl)), omega arith)
