use native.Mathlib.Omega.{arith}
use Rattle.std.proofs.lemmas.Result.{err_from_is_err_and}
use Rattle.run.proofs.Offset.{refused-offset, page-small, done-offset}
use Rattle.run.proofs.make.make_read_page.Goals as goal

pub returns-in_err-page : goal.returns-in_err-page
returns-in_err-page c =
    let p = err_from_is_err_and c.from_residual.result c.from_residual.ensures.1 in
    rw (p.1, p.2) (refused-offset _ _ _ _ c.address.result c.address.ensures _ c.in_err-page.was)

pub overflow_mul-result : goal.overflow_mul-result
overflow_mul-result c = omega (arith, page-small _ _ _ _ c.address.result c.address.ensures _ c.in_ok-page.was)

pub returns : goal.returns
returns c = done-offset _ _ _ _ c.address.result c.address.ensures _ c.in_ok-page.was
