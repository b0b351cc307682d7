use Rattle.book.specs.Answers.{unbroken}
use Rattle.run.proofs.Replies.{put-broken}
use Rattle.run.proofs.reply.nothing.Goals as goal

pub returns : goal.returns
returns c = put-broken c.args.out.now _ _ _ c.args.at unbroken c.place.ensures c.four.ensures c.four-2.ensures
