use mathlib.Core.Path.{subst}
use native.Mathlib.Omega.{arith}
use Rattle.book.specs.Words.{vol}
use Rattle.book.specs.Entries.{Table}
use Rattle.book.specs.Decides.{Decides}
use Rattle.page.proofs.Deciding.{told}
use Rattle.heads.proofs.Each.{decides-first}
use Rattle.heads.specs.Twins.{no-type, Apart}
use Rattle.heads.proofs.Heads.{users-reach, users-reached}
use Rattle.heads.proofs.Judged.{users-table, rule4-users, rule4-by}
use Rattle.heads.proofs.users.rule4.Goals as goal

pub users_ok-requires : goal.users_ok-requires
users_ok-requires c = users-reach _ (omega arith) c.requires.1 c.requires.2

pub returns-else-users_ok : goal.returns-else-users_ok
returns-else-users_ok c = (decides-first _ _ _ c.users_ok.ensures c.if-users_ok.false (rule4-users _ _), λ e. c.requires.3)

pub apart-requires : goal.apart-requires
apart-requires c = (users-reached _ (omega arith) c.requires.1 c.requires.2 c.pointer_at-pointer.result.flags c.pointer_at-pointer.result.page c.pointer_at-pointer.ensures.flags.0 c.pointer_at-pointer.ensures.page.0, no-type, omega arith, omega arith, c.requires.3)

pub returns-then-users_ok : goal.returns-then-users_ok
returns-then-users_ok c = let v = vol c.args.img.now in (
  rule4-by _ _ c.apart.result (told c.users_ok.result _ c.users_ok.ensures c.if-users_ok.true)
      (subst (λ (E : Table). Decides c.apart.result (Apart E 0 0 256)) (users-table v c.pointer_at-pointer.result.flags c.pointer_at-pointer.result.page c.pointer_at-pointer.ensures.flags.0 c.pointer_at-pointer.ensures.page.0) c.apart.ensures.0),
  c.apart.ensures.1,
)
