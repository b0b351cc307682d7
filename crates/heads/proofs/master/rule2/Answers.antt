use Rattle.page.proofs.Deciding.{told, untold}
use Rattle.heads.proofs.Each.{decides-first, decides-one}
use Rattle.heads.proofs.Heads.{rule2-none, rule2-index, rule2-one, rule2-two}
use Rattle.heads.proofs.master.rule2.Goals as goal

pub returns-then-zero_at : goal.returns-then-zero_at
returns-then-zero_at c = rule2-none _ _ c.zero_at-then-zero_at.result (told c.zero_at.result _ c.zero_at.ensures c.if-zero_at.true) c.zero_at-then-zero_at.ensures

pub returns-then-inside_at-2 : goal.returns-then-inside_at-2
returns-then-inside_at-2 c = decides-one _ _ _ c.inside_at-then-inside_at.ensures c.if-inside_at-2.true (rule2-one _ _ (told c.inside_at.result _ c.inside_at.ensures c.if-inside_at.true))

pub returns-else-inside_at-2 : goal.returns-else-inside_at-2
returns-else-inside_at-2 c = rule2-two _ _ c.inside_at-else-inside_at-2.result (untold c.zero_at.result _ c.zero_at.ensures c.if-zero_at.false) (told c.inside_at.result _ c.inside_at.ensures c.if-inside_at.true) (untold c.inside_at-then-inside_at.result _ c.inside_at-then-inside_at.ensures c.if-inside_at-2.false) c.inside_at-else-inside_at-2.ensures

pub returns-else-inside_at : goal.returns-else-inside_at
returns-else-inside_at c = decides-first _ _ _ c.inside_at.ensures c.if-inside_at.false (rule2-index _ _ (untold c.zero_at.result _ c.zero_at.ensures c.if-zero_at.false))
