use Rattle.std.proofs.lemmas.Result.{err_from_is_err_and}
use Rattle.book.specs.Calls.{who_call}
use Rattle.nord.proofs.Halves.{fit, shut}
use Rattle.run.proofs.ask.make_who.Goals as goal

pub returns-in_err-enter_page : goal.returns-in_err-enter_page
unfolding who_call
returns-in_err-enter_page c =
    let p = err_from_is_err_and c.from_residual.result c.from_residual.ensures.1 in
    rw (p.1, p.2) (shut _ _ _ _ _ _ c.enter_page.ensures c.in_err-enter_page.was)

pub who_holds-requires : goal.who_holds-requires
who_holds-requires c = (fit c.enter_page.ensures c.in_ok-enter_page.was).ready
