use mathlib.Core.Path.{ap, ◌∙◌}
use Rattle.book.specs.Words.{vol}
use Rattle.tree.proofs.Entries.{user-in}
use Rattle.shape.specs.Counts.{count_in}
use Rattle.salvage.proofs.counts.given_to.Goals as goal

pub returns : goal.returns
returns c = (c.count_of.ensures.0 ∙ ap (count_in 14) (user-in (vol c.args.img.now) c.args.u _ c.user_page-q.ensures.0), c.count_of.ensures.1)
