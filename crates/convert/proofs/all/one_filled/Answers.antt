-- `convert::all::one_filled` meets its contract. Assumes nothing.
use mathlib.Core.Path.{◌≡◌, sym, subst}
use mathlib.Core.Bool.{Bool, true, not}
use borrow.Author.Rules.{rules}
use Rattle.book.specs.Words.{vol}
use Rattle.book.specs.Decides.{Decides}
use Rattle.convert.specs.Kinds.{FilledAt}
use Rattle.convert.proofs.Passes.{page-there, unused-filled, used-filled}
use Rattle.convert.proofs.all.one_filled.Goals as goal

pub returns-then-not-entry_used : goal.returns-then-not-entry_used
returns-then-not-entry_used c = let e : not c.entry_used.result ≡ true = search rules in
    subst (λ (b : Bool). Decides b (FilledAt c.args.typed c.args.mark (vol c.args.img.now) c.args.n)) (sym e)
    (unused-filled c.args.typed (vol c.args.img.now) c.page_of-q.result c.args.n c.page_of-q.ensures.0 c.args.mark (search rules))

pub entry_filled-requires : goal.entry_filled-requires
entry_filled-requires c = (page-there c.args.typed (vol c.args.img.now) c.page_of-q.result c.args.n c.page_of-q.ensures.0 (search rules), c.page_of-q.ensures.1)

pub returns-else-not-entry_used : goal.returns-else-not-entry_used
returns-else-not-entry_used c = used-filled c.args.typed (vol c.args.img.now) c.page_of-q.result c.args.n c.page_of-q.ensures.0 c.entry_filled.result c.args.mark (search rules) c.entry_filled.ensures
