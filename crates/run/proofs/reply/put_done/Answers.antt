use Rattle.run.proofs.Replies.{reply-done}
use Rattle.run.proofs.reply.put_done.Goals as goal

pub returns : goal.returns
returns c = reply-done c.args.out.now _ _ c.args.i _ c.three.ensures c.nothing.ensures
