use mathlib.Core.Path.{◌∙◌}
use Rattle.book.specs.Words.{vol}
use Rattle.tree.proofs.Entries.{there-end}
use Rattle.heads.proofs.stored.entry_end.Goals as goal

pub returns : goal.returns
returns c = c.end_at.ensures ∙ there-end (vol c.args.img.now) c.args.q c.args.e c.of-w.result.word c.args.k c.args.n c.requires.0 c.of-w.ensures.1
