-- `convert::entry::entry_filled` meets its contract. Assumes nothing.
use mathlib.Core.Path.{◌≡◌, sym, subst}
use mathlib.Core.Bool.{Bool, true, not}
use borrow.Author.Rules.{rules}
use Rattle.book.specs.Words.{vol}
use Rattle.book.specs.Decides.{Decides}
use Rattle.page.proofs.Deciding.{told, untold}
use Rattle.tree.specs.Reach.{entry_in}
use Rattle.convert.specs.Kinds.{FilledEntry}
use Rattle.convert.proofs.Entries.{there-filled, name-first, name-alone, name-and-type}
use Rattle.convert.proofs.entry.entry_filled.Goals as goal

pub returns-then-not-typed : goal.returns-then-not-typed
returns-then-not-typed c = let v = vol c.args.img.now in let f = there-filled v c.args.q c.args.n c.of-w.result.word c.requires.0 c.of-w.ensures.1 c.filled_at.result c.args.mark 16 1 c.filled_at.ensures in let e : not c.args.typed ≡ true = search rules in
    subst (λ (b : Bool). Decides b (FilledEntry c.args.typed c.args.mark (entry_in v c.args.q c.args.n))) (sym e)
    (name-alone c.args.mark (entry_in v c.args.q c.args.n) c.args.typed e (told c.filled_at.result _ f c.if-filled_at.true))

pub returns-else-not-typed : goal.returns-else-not-typed
returns-else-not-typed c = let v = vol c.args.img.now in let f = there-filled v c.args.q c.args.n c.of-w.result.word c.requires.0 c.of-w.ensures.1 c.filled_at.result c.args.mark 16 1 c.filled_at.ensures in
    name-and-type c.args.mark (entry_in v c.args.q c.args.n) c.args.typed c.filled_at-else-not-typed.result (search rules) (told c.filled_at.result _ f c.if-filled_at.true)
    (there-filled v c.args.q c.args.n c.of-w.result.word c.requires.0 c.of-w.ensures.1 c.filled_at-else-not-typed.result c.args.mark 4 9 c.filled_at-else-not-typed.ensures)

pub returns-else-filled_at : goal.returns-else-filled_at
returns-else-filled_at c = let v = vol c.args.img.now in let f = there-filled v c.args.q c.args.n c.of-w.result.word c.requires.0 c.of-w.ensures.1 c.filled_at.result c.args.mark 16 1 c.filled_at.ensures in
    subst (λ (b : Bool). Decides b (FilledEntry c.args.typed c.args.mark (entry_in v c.args.q c.args.n))) (sym c.if-filled_at.false)
    (λ g. untold c.filled_at.result _ f c.if-filled_at.false (name-first c.args.mark (entry_in v c.args.q c.args.n) c.args.typed g))
