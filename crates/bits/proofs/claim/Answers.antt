-- `bits::claim` meets its contract. Assumes nothing.
use mathlib.Core.Path.{ap, ◌∙◌}
use Rattle.book.specs.Words.{Vol, wipe}
use Rattle.book.specs.Bits.{claim}
use Rattle.bits.proofs.claim.Goals as goal

pub returns : goal.returns
unfolding claim
returns c = λ P f h.
    c.zero_page.ensures ∙ ap (λ (w : Vol). wipe w c.args.p) (c.set.ensures P f h)
