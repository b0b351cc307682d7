use mathlib.Core.Path.{sym, ◌∙◌}
use borrow.Author.Tests.{eqb-true}
use native.Mathlib.Omega.{arith}
use Rattle.book.specs.Entries.{given, used_pages}
use Rattle.page.proofs.Deciding.{decides-iff, told}
use Rattle.book.specs.Decides.{holds}
use Rattle.heads.proofs.users.user_ok.Goals as goal
use Rattle.heads.proofs.users.user_ok.Goals.{then-from-u, else-from-u}

pub returns-then-entry_legal : goal.returns-then-entry_legal
unfolding given used_pages
returns-then-entry_legal c = elim c.if-from-u.branch [
  | then-from-u w ↦
      decides-iff c.within.result _ _ (λ a h. record { own = omega arith; name = told w.entry_legal.result _ w.entry_legal.ensures (sym w.value-is ∙ c.if-entry_legal.true); within = a })
      (λ f. (f (holds c.entry_used.result _ c.entry_used.ensures c.if-not-entry_used.false-raw)).within) c.within.ensures
  | else-from-u w ↦ absurd (w.if-from-u.false (eqb-true _ _ (sym w.value-is ∙ c.if-entry_legal.true)))
]
