use Rattle.run.proofs.Replies.{answer-done, answer-refused}
use Rattle.run.proofs.reply.put.Goals as goal

pub returns-in-Ok : goal.returns-in-Ok
returns-in-Ok c = answer-done c.args.out.now _ c.args.i _ _ c.in-Ok.is c.put_done.ensures

pub returns-in-Err : goal.returns-in-Err
returns-in-Err c = answer-refused c.args.out.now _ c.args.i _ _ c.in-Err.is c.put_refused.ensures
