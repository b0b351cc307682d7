-- `page::names::cut` meets its contract. Assumes nothing.
use native.Mathlib.Omega.{arith}
use Rattle.page.proofs.Bytes.{bytes-high, bytes-low}
use Rattle.page.proofs.Cut.{cut-first, cut-second, cut-whole}
use Rattle.page.proofs.Deciding.{told, untold}
use Rattle.page.proofs.names.cut.Goals as goal

pub returns-then-ends_name : goal.returns-then-ends_name
returns-then-ends_name c =
    cut-first c.args.w _ (bytes-high c.args.w c.to_be_bytes.result (omega arith) c.to_be_bytes.ensures) (told c.ends_name.result _ c.ends_name.ensures c.if-ends_name.true)

pub returns-then-ends_name-2 : goal.returns-then-ends_name-2
returns-then-ends_name-2 c =
    cut-second c.args.w _ (bytes-high c.args.w c.to_be_bytes.result (omega arith) c.to_be_bytes.ensures) _ (bytes-low c.args.w c.to_be_bytes.result c.to_be_bytes.ensures)
    (untold c.ends_name.result _ c.ends_name.ensures c.if-ends_name.false) (told c.ends_name-2.result _ c.ends_name-2.ensures c.if-ends_name-2.true)

pub returns : goal.returns
returns c =
    cut-whole c.args.w _ (bytes-high c.args.w c.to_be_bytes.result (omega arith) c.to_be_bytes.ensures) _ (bytes-low c.args.w c.to_be_bytes.result c.to_be_bytes.ensures)
    (untold c.ends_name.result _ c.ends_name.ensures c.if-ends_name.false) (untold c.ends_name-2.result _ c.ends_name-2.ensures c.if-ends_name-2.false)
