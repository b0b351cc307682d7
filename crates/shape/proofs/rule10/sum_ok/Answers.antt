use mathlib.Core.Path.{◌∙◌}
use Rattle.book.specs.Image.{pages}
use Rattle.book.specs.Words.{vol}
use Rattle.shape.proofs.Users.{grants-sum, taken-sum, decides-sum}
use Rattle.shape.proofs.rule10.sum_ok.Goals as goal

pub returns : goal.returns
returns c = let P = pages c.args.img.now in let v = vol c.args.img.now in
    decides-sum P v _ _ _ c.args.total _ (c.from-unreserved.ensures ∙ c.two_at.ensures.0) (c.users_sum-given.ensures.0 ∙ grants-sum v) (c.from.ensures ∙ c.requires.3) c.requires.1
    (c.users_sum-taken.ensures.0 ∙ taken-sum P v c.requires.4 c.requires.5 c.requires.6)
