use Rattle.std.specs.Prelude.{Err}
use Rattle.std.proofs.lemmas.Result.{err_from_is_err_and}
use Rattle.book.specs.Calls.{who_call}
use Rattle.nord.proofs.Halves.{ap, ◌∙◌}
use Rattle.nord.proofs.Outcomes.{held_on}
use Rattle.nord.proofs.ask.who_holds.Goals as goal

pub returns-in_err-enter_page : goal.returns-in_err-enter_page
unfolding who_call
returns-in_err-enter_page c =
    let p = err_from_is_err_and c.from_residual.result c.from_residual.ensures.1 in
    held_on _ _ _ _ _ _ _ _ c.enter_page.ensures c.in_err-enter_page.was (p.1 ∙ ap Err p.2)
