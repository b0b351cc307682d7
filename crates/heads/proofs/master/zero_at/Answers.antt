use native.Mathlib.Omega.{arith}
use Rattle.book.specs.Words.{vol, two}
use Rattle.book.specs.Pointers.{Zero}
use Rattle.page.proofs.Deciding.{decides-iff, decides_eq}
use Rattle.heads.proofs.master.zero_at.Goals as goal

pub returns : goal.returns
unfolding Zero two
returns c = decides-iff _ _ (Zero (vol c.args.img.now 0) c.args.k) (λ e. (omega arith, omega arith)) (λ z. omega (arith, z.0, z.1)) (decides_eq c.two_at.result 0)
