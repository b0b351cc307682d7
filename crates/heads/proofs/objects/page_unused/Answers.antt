use mathlib.Core.Path.{ap}
use Prim.Native.Nat.{◌+◌}
use native.Mathlib.Omega.{arith}
use Rattle.std.proofs.Common.{rules}
use Rattle.book.specs.Words.{vol}
use Rattle.book.specs.Entries.{user, used}
use Rattle.tree.specs.Reach.{entry_in}
use Rattle.heads.specs.Fine.{Unused}
use Rattle.heads.proofs.Each.{decides-none, span-all, span-as}
use Rattle.heads.proofs.Pages.{user-on, users-none}
use Rattle.heads.proofs.objects.page_unused.Goals as goal

pub returns-then-q-eq0 : goal.returns-then-q-eq0
returns-then-q-eq0 c = users-none _ c.user_page-q.result c.args.first c.requires.1 (omega arith) c.user_page-q.ensures.0

pub returns : goal.returns
returns c = let v = vol c.args.img.now in let q = c.user_page-q.result in let first = c.args.first in
    span-as (Unused (entry_in v q)) (Unused (user v)) first (first + 32) c.all.result
    (λ x h l. let e = ap used (user-on v q first x c.requires.1 h l c.user_page-q.ensures.0) in ((λ u. omega (arith, e, u)), λ u. omega (arith, e, u)))
    (span-all (Unused (entry_in v q)) first (first + 32) (omega arith) c.all.result c.all.ensures.ran (λ x t q k. search (rules, decides-none)))
