-- `convert::entry::refill_entry` meets its contract. Assumes nothing.
use mathlib.Core.Path.{ap, ◌∙◌}
use native.Mathlib.Omega.{arith}
use borrow.Author.Rules.{rules}
use Rattle.book.specs.Words.{Words, Vol, vol}
use Rattle.book.specs.Entries.{put_entry}
use Rattle.book.specs.Convert.{refilled}
use Rattle.tree.specs.Reach.{entry_in}
use Rattle.convert.proofs.Entries.{own-entry, refill-in, refilled-name, refilled-both}
use Rattle.convert.proofs.entry.refill_entry.Goals as goal

pub returns-then-not-typed : goal.returns-then-not-typed
returns-then-not-typed c =
    let v : Vol = vol c.args.img.now in let E : Words = entry_in v c.args.q c.args.n in
    c.refill_at.ensures ∙ refill-in v v c.args.q c.args.n c.of-w.result.word 1 c.args.mark 16 E c.of-w.ensures.1 (omega arith) (omega arith) (own-entry v c.args.q c.args.n c.requires.0)
    ∙ ap (λ (w : Words). put_entry v c.args.q c.args.n w) (refilled-name c.args.mark E c.args.typed (search rules))

pub returns : goal.returns
returns c =
    let v : Vol = vol c.args.img.now in let E : Words = entry_in v c.args.q c.args.n in
    c.refill_at-2.ensures
    ∙ refill-in v _ c.args.q c.args.n c.of-w.result.word 9 c.args.mark 4 (refilled c.args.mark 16 E 1) c.of-w.ensures.1 (omega arith) (omega arith)
    (c.refill_at.ensures ∙ refill-in v v c.args.q c.args.n c.of-w.result.word 1 c.args.mark 16 E c.of-w.ensures.1 (omega arith) (omega arith) (own-entry v c.args.q c.args.n c.requires.0))
    ∙ ap (λ (w : Words). put_entry v c.args.q c.args.n w) (refilled-both c.args.mark E c.args.typed (search rules))
