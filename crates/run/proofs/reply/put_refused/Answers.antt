use Rattle.run.proofs.Replies.{reply-refused}
use Rattle.run.proofs.reply.put_refused.Goals as goal

pub returns : goal.returns
returns c = reply-refused c.args.out.now _ _ c.args.i c.args.why c.broken_of-b.result _ c.broken_of-b.ensures c.number_of.ensures c.three.ensures c.broken.ensures
