use Rattle.run.proofs.Replies.{put-broken}
use Rattle.run.proofs.reply.broken.Goals as goal

pub returns : goal.returns
returns c = put-broken c.args.out.now _ _ _ c.args.at c.args.b c.place.ensures c.holder.ensures c.holder-2.ensures
