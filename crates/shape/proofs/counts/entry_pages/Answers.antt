use mathlib.Core.Path.{◌∙◌}
use Rattle.book.specs.Decides.{holds, fails}
use Rattle.book.specs.Words.{vol}
use Rattle.tree.specs.Reach.{entry_in}
use Rattle.shape.proofs.Sums.{pages-unused, pages-used}
use native.Mathlib.Omega.{arith}
use Rattle.shape.proofs.counts.entry_pages.Goals as goal

pub returns-then-not-entry_used : goal.returns-then-not-entry_used
returns-then-not-entry_used c = (pages-unused (entry_in (vol c.args.img.now) c.args.q c.args.e) (fails c.entry_used.result _ c.entry_used.ensures c.if-not-entry_used.true-raw), omega arith)

pub returns : goal.returns
returns c = (
  c.charge_of.ensures.0 ∙ pages-used (entry_in (vol c.args.img.now) c.args.q c.args.e) (holds c.entry_used.result _ c.entry_used.ensures c.if-not-entry_used.false-raw)
      _ _ c.entry_flags-flags.ensures.0 (c.from.ensures ∙ c.entry_two.ensures.0),
  c.charge_of.ensures.1,
)
