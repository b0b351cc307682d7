-- `steps::format::format_step` meets its contract. Assumes nothing.
use Rattle.book.specs.Words.{vol}
use Rattle.book.specs.Image.{pages}
use Rattle.steps.proofs.Formatted.{format-is}
use Rattle.steps.proofs.format.format_step.Goals as goal

pub returns : goal.returns
returns c =
    format-is (pages c.args.img.now) c.requires.0.most c.args.b c.requires.2 (vol c.args.img.now) c.args.name.now c.bit_pages-n.result _ _ _ _
    c.bit_pages-n.ensures c.put_directory.ensures c.wipe_run.ensures (c.set.ensures (pages c.args.img.now)) (c.set_run.ensures (pages c.args.img.now))
