use mathlib.Core.Path.{sym, subst}
use Prim.Native.Nat.{◌+◌}
use native.Mathlib.Omega.{arith}
use Rattle.std.proofs.Common.{rules}
use Rattle.book.specs.Words.{vol}
use Rattle.tree.specs.Reach.{entry_in}
use Rattle.page.proofs.Deciding.{decides-iff}
use Rattle.shape.specs.Counts.{CountRight}
use Rattle.shape.proofs.Each.{each-all}
use Rattle.shape.proofs.Users.{user-at, users-absent}
use Rattle.shape.proofs.rule10.page_ok.Goals as goal

pub returns-then-q-eq0 : goal.returns-then-q-eq0
returns-then-q-eq0 c = users-absent (vol c.args.img.now) c.user_page-q.result c.args.first c.requires.3 c.user_page-q.ensures.0 c.if-q-eq0.true

pub returns : goal.returns
returns c = let v = vol c.args.img.now in let q = c.user_page-q.result in let first = c.args.first in
    decides-iff c.all.result _ _
    (λ f u l h. subst (CountRight v u) (user-at v q first u c.requires.3 h l c.user_page-q.ensures.0) (f u l h))
    (λ f u l h. subst (CountRight v u) (sym (user-at v q first u c.requires.3 h l c.user_page-q.ensures.0)) (f u l h))
    (each-all (λ u. CountRight v u (entry_in v q u)) first (first + 32) (omega arith) c.all.result c.all.ensures.ran (λ u t f k. search rules))
