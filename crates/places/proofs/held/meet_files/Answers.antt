use Rattle.places.proofs.Steps.{none₂, files-more}
use Rattle.sums.specs.Sum.{sum-zero}
use Rattle.book.specs.Files.{file_at}
use Rattle.book.specs.Trees.{weigh_r}
use Rattle.book.specs.Image.{pages}
use Rattle.book.specs.Words.{vol}
use Rattle.book.specs.Holders.{hit}
use Rattle.places.proofs.held.meet_files.Goals as goal

pub loop-e-init : goal.loop-e-init
loop-e-init c = let P = pages c.args.img.now in let v = vol c.args.img.now in
    none₂ P v _ _ _ _ c.requires.0.index c.requires.0.subindex c.requires.0.room _ (λ p. sum-zero (λ j. weigh_r v (file_at v j) (hit p)))

pub loop-e-preserved : goal.loop-e-preserved
loop-e-preserved c = let P = pages c.args.img.now in let v = vol c.args.img.now in
    files-more P v _ _ _ _ (λ j p. weigh_r v (file_at v j) (hit p)) c.loop-e.e _ _ _ _ _ _ _ _ c.loop-e.invariant c.meet_file-low.ensures
