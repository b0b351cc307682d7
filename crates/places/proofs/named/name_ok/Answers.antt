use mathlib.Core.Path.{sym, subst}
use Rattle.book.specs.Decides.{decides_and}
use Rattle.book.specs.Names.{LegalName}
use Rattle.book.specs.Trees.{root_by}
use Rattle.book.specs.Words.{Words, vol}
use Rattle.heads.proofs.Pages.{entry_in_lem}
use Rattle.page.proofs.Deciding.{told, untold}
use Rattle.places.proofs.named.name_ok.Goals as goal

pub returns-else-entry_legal : goal.returns-else-entry_legal
returns-else-entry_legal c = rw c.if-entry_legal.false (λ n.
    untold c.entry_legal.result _ c.entry_legal.ensures c.if-entry_legal.false
    (subst (λ (w : Words). LegalName w 1) (sym (entry_in_lem (vol c.args.img.now) (root_by c.args.pointer.flags c.args.pointer.page 0) c.args.q c.args.y c.requires.0.at)) n.0))

pub returns-then-entry_legal : goal.returns-then-entry_legal
returns-then-entry_legal c =
    decides_and c.fresh.result _ _
    (subst (λ (w : Words). LegalName w 1) (entry_in_lem (vol c.args.img.now) (root_by c.args.pointer.flags c.args.pointer.page 0) c.args.q c.args.y c.requires.0.at) (told c.entry_legal.result _ c.entry_legal.ensures c.if-entry_legal.true))
    c.fresh.ensures
