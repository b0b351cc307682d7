use Rattle.places.proofs.All.{all-met}
use Rattle.book.specs.Image.{pages}
use Rattle.book.specs.Words.{vol}
use Rattle.places.proofs.held.meet_all.Goals as goal

pub returns : goal.returns
returns c = let P = pages c.args.img.now in let v = vol c.args.img.now in
    all-met _ c.args.ends c.requires.2 P _ _ _ _ c.requires.0.index c.requires.0.subindex _ _ _ _ _ _ _ _ c.meet_system-low.ensures c.meet_files.ensures
