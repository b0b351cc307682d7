-- `steps::format::put_directory` meets its contract. Assumes nothing.
use Rattle.book.specs.Words.{vol}
use Rattle.book.specs.Image.{pages}
use Rattle.steps.proofs.Formatted.{directory-is}
use Rattle.steps.proofs.format.put_directory.Goals as goal

pub returns : goal.returns
returns c =
    directory-is (pages c.args.img.now) c.requires.0.most c.args.b c.requires.1 (vol c.args.img.now) c.args.name.now _ _ _ _ _ c.rest_of-rest.result c.rest_of-rest.ensures
    c.put_text.ensures c.put_two.ensures c.put_two-2.ensures c.put_two-3.ensures c.put_two-4.ensures
