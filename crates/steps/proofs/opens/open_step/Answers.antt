-- `steps::opens::open_step` meets its contract. Assumes nothing.
use Rattle.std.proofs.Common.{refl}
use Rattle.book.specs.Words.{vol}
use Rattle.tree.proofs.Ready.{ready-objects}
use Rattle.steps.proofs.Written.{opened-is}
use Rattle.steps.proofs.opens.open_step.Goals as goal

pub object_page-q-requires : goal.object_page-q-requires
object_page-q-requires c = ready-objects _ c.requires.0

pub returns : goal.returns
returns c =
    opened-is (vol c.args.img.now) _ c.args.e c.object_page-q.result c.of-k.result.word c.entry_word-opens.result _
    c.object_page-q.ensures.0 c.of-k.ensures.1 c.entry_word-opens.ensures refl c.put_word.ensures
