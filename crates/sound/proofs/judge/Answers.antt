use Rattle.sound.proofs.Laws.{early-whole, late-judged}
use Rattle.sound.proofs.judge.Goals as goal

pub returns : goal.returns
returns c = late-judged _ _ (early-whole _ _ c.early.result c.early.ensures _ c.in_ok-ends.was).0 c.judge_held.result c.judge_held.ensures
