use Rattle.run.proofs.Replies.{reply-held}
use Rattle.run.proofs.reply.put_holder.Goals as goal

pub returns : goal.returns
returns c = reply-held c.args.out.now _ _ c.args.i c.args.h c.held_by-b.result c.held_by-b.ensures c.three.ensures c.broken.ensures
