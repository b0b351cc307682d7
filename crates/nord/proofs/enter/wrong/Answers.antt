use mathlib.Core.Bool.{false}
use Rattle.book.specs.Run.{wrong_call}
use Rattle.nord.proofs.Halves.{call, entered}
use Rattle.nord.proofs.Outcomes.{never_open}
use Rattle.nord.proofs.enter.wrong.Goals as goal

pub returns : goal.returns
unfolding wrong_call call
returns c = never_open _ ⊥ _ _ _ c.admit.result (entered _ ⊥ false (λ x. x) c.admit.result c.admit.ensures) (λ x. x)
