-- `steps::write::write_step` meets its contract. Assumes nothing.
use Rattle.book.specs.Words.{vol}
use Rattle.tree.proofs.Ready.{ready-objects, ready-file}
use Rattle.steps.proofs.Written.{written_is}
use Rattle.steps.proofs.write.write_step.Goals as goal

pub file_page-p-requires : goal.file_page-p-requires
file_page-p-requires c = (ready-objects _ c.requires.0, ready-file _ c.requires.0 c.args.e c.requires.1)

pub returns : goal.returns
returns c = written_is (vol c.args.img.now) _ c.args.e c.args.n c.file_page-p.result c.args.«data».now c.file_page-p.ensures.0 c.copy_page.ensures
