-- `page::write::zero_page` meets its contract. Assumes nothing.
use mathlib.Core.Path.{◌∙◌}
use Rattle.page.proofs.Parts.{zeros-wipe}
use Rattle.page.proofs.write.zero_page.Goals as goal

pub returns : goal.returns
returns c = c.zero_at.ensures ∙ zeros-wipe c.args.img.now c.args.p
