use Rattle.run.proofs.Replies.{put-told}
use Rattle.run.proofs.reply.holder.Goals as goal

pub returns : goal.returns
returns c = put-told c.args.out.now _ c.args.at c.holder_of-t.result _ c.holder_of-t.ensures c.four.ensures
