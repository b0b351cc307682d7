-- `page::names::ends_in` meets its contract. Assumes nothing.
use mathlib.Core.Path.{sym, ◌∙◌}
use native.Mathlib.Omega.{arith}
use Rattle.page.proofs.Bytes.{bytes-high, bytes-low}
use Rattle.page.proofs.Cut.{cut-first, ends_by}
use Rattle.page.proofs.Deciding.{decides-iff, never, told, untold}
use Rattle.page.proofs.names.ends_in.Goals as goal

pub returns-then-ends_name : goal.returns-then-ends_name
returns-then-ends_name c =
    let h = told c.ends_name.result _ c.ends_name.ensures c.if-ends_name.true in
    let e = cut-first c.args.w _ (bytes-high c.args.w c.to_be_bytes.result (omega arith) c.to_be_bytes.ensures) h in
    (decides-iff c.ends_name.result _ _ (λ _. omega arith) (λ _. h) c.ends_name.ensures, λ e. never (sym e ∙ c.if-ends_name.true))

pub returns-else-ends_name : goal.returns-else-ends_name
returns-else-ends_name c =
    ends_by c.args.w _ (bytes-high c.args.w c.to_be_bytes.result (omega arith) c.to_be_bytes.ensures) _ (bytes-low c.args.w c.to_be_bytes.result c.to_be_bytes.ensures)
    (untold c.ends_name.result _ c.ends_name.ensures c.if-ends_name.false) c.ends_name-else-ends_name.result c.ends_name-else-ends_name.ensures
