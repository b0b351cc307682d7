use Rattle.places.proofs.All.{unopened}
use mathlib.Core.Path.{refl}
use Rattle.places.proofs.held.none_opened.Goals as goal

pub returns : goal.returns
returns c = unopened 17592 refl
