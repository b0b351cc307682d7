use mathlib.Core.Path.{sym}
use Prim.Native.Nat.{◌+◌}
use native.Mathlib.Omega.{arith}
use Rattle.std.proofs.Common.{rules}
use Rattle.std.proofs.lemmas.Iterator.{serves_from_Range}
use Rattle.book.specs.Words.{vol}
use Rattle.book.specs.Trees.{root_by}
use Rattle.book.specs.Entries.{user, entry}
use Rattle.tree.specs.Reach.{entry_in}
use Rattle.heads.specs.Fine.{FileFine}
use Rattle.heads.proofs.Each.{span-all, span-as}
use Rattle.heads.proofs.Pages.{entry-on, file-fine, files-absent, owner-on}
use Rattle.heads.proofs.objects.page_ok.Goals as goal

pub returns-then-q-eq0 : goal.returns-then-q-eq0
returns-then-q-eq0 c = files-absent (vol c.args.img.now) c.root_page-q.result c.args.first c.requires.2 (omega arith) _ (root_by c.args.pointer.flags c.args.pointer.page 0) c.root_page-q.ensures.0

pub all-requires-clause-callable : goal.all-requires-clause-callable
all-requires-clause-callable c = serves_from_Range (λ x q k. search rules) (λ x h l.
    let o = owner-on (vol c.args.img.now) c.user_page.result c.args.first x c.requires.2 h l c.entry_used-owned.result c.user_page.ensures.0 c.entry_used-owned.ensures in search rules)

pub returns : goal.returns
returns c = let v = vol c.args.img.now in let q = c.root_page-q.result in let first = c.args.first in let r = root_by c.args.pointer.flags c.args.pointer.page 0 in
    span-as (FileFine (user v) (entry_in v q)) (FileFine (user v) (entry v r)) first (first + 32) c.all.result
    (λ x h l. let e = entry-on v q first x c.requires.2 h l r c.root_page-q.ensures.0 in (file-fine _ _ x e (user v), file-fine _ _ x (sym e) (user v)))
    (span-all (FileFine (user v) (entry_in v q)) first (first + 32) (omega arith) c.all.result c.all.ensures.ran (λ x t q k. search rules))
