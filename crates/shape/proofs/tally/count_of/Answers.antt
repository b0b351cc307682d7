use mathlib.Core.Path.{◌∙◌}
use Rattle.book.specs.Decides.{holds, fails}
use Rattle.book.specs.Words.{vol}
use Rattle.tree.specs.Reach.{entry_in}
use Rattle.shape.proofs.Users.{count-unused, count-used}
use native.Mathlib.Omega.{arith}
use Rattle.shape.proofs.tally.count_of.Goals as goal

pub returns-then-not-entry_used : goal.returns-then-not-entry_used
returns-then-not-entry_used c = (count-unused c.args.k (entry_in (vol c.args.img.now) c.args.q c.args.u) (fails c.entry_used.result _ c.entry_used.ensures c.if-not-entry_used.true-raw), omega arith)

pub returns : goal.returns
returns c = (c.from.ensures ∙ c.entry_two.ensures.0 ∙ count-used c.args.k (entry_in (vol c.args.img.now) c.args.q c.args.u) (holds c.entry_used.result _ c.entry_used.ensures c.if-not-entry_used.false-raw), omega (arith, c.entry_two.ensures.1))
