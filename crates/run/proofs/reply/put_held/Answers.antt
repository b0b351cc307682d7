use Rattle.run.proofs.Replies.{holding-done, holding-refused}
use Rattle.run.proofs.reply.put_held.Goals as goal

pub returns-in-Ok : goal.returns-in-Ok
returns-in-Ok c = holding-done c.args.out.now _ c.args.i _ _ c.in-Ok.is c.put_holder.ensures

pub returns-in-Err : goal.returns-in-Err
returns-in-Err c = holding-refused c.args.out.now _ c.args.i _ _ c.in-Err.is c.put_refused.ensures
