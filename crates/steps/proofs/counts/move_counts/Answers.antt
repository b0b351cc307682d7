-- `steps::counts::move_counts` meets its contract. Assumes nothing.
use Rattle.tree.proofs.Ready.{ready-users}
use Rattle.steps.proofs.Written.{moved-is}
use Rattle.steps.proofs.counts.move_counts.Goals as goal

pub user_page-q-requires : goal.user_page-q-requires
user_page-q-requires c = ready-users _ c.requires

pub returns : goal.returns
returns c = moved-is _ _ _ c.args.u c.user_page-q.result c.of-k.result.word c.user_page-q.ensures.0 c.of-k.ensures.1 c.args.g c.args.s c.put_two.ensures c.put_two-2.ensures
