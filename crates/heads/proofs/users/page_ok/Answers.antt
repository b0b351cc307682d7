use mathlib.Core.Path.{sym}
use native.Mathlib.Omega.{arith}
use Rattle.std.proofs.Common.{rules}
use Prim.Native.Nat.{◌+◌}
use Rattle.book.specs.Words.{vol}
use Rattle.book.specs.Entries.{user}
use Rattle.tree.specs.Reach.{entry_in}
use Rattle.heads.specs.Fine.{UserFine}
use Rattle.heads.proofs.Each.{span-all, span-as}
use Rattle.heads.proofs.Pages.{user-on, user-fine, users-absent}
use Rattle.heads.proofs.users.page_ok.Goals as goal

pub returns-then-q-eq0 : goal.returns-then-q-eq0
returns-then-q-eq0 c = users-absent _ c.user_page-q.result c.args.first c.requires.1 (omega arith) _ c.user_page-q.ensures.0

pub returns : goal.returns
returns c = let v = vol c.args.img.now in let q = c.user_page-q.result in let first = c.args.first in
    span-as (UserFine c.args.ten (entry_in v q)) (UserFine c.args.ten (user v)) first (first + 32) c.all.result
    (λ x h l. let e = user-on v q first x c.requires.1 h l c.user_page-q.ensures.0 in (user-fine _ _ x e c.args.ten, user-fine _ _ x (sym e) c.args.ten))
    (span-all (UserFine c.args.ten (entry_in v q)) first (first + 32) (omega arith) c.all.result c.all.ensures.ran (λ x t q k. search rules))
