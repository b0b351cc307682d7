use Prim.Native.Nat.{suc}
use native.Mathlib.Omega.{arith}
use Rattle.book.specs.Words.{vol}
use Rattle.book.specs.Image.{pages}
use Rattle.book.specs.Pointers.{Inside}
use Rattle.page.proofs.Deciding.{decides-iff, decides-le}
use Rattle.std.proofs.lemmas.Bool.Decides.{nat_tests}
use Rattle.heads.proofs.master.inside_at.Goals as goal

pub returns-then-t-ne0 : goal.returns-then-t-ne0
unfolding Inside
returns-then-t-ne0 c = decides-iff _ _ (Inside (pages c.args.img.now) (vol c.args.img.now 0) c.args.k c.args.flags) (λ l. (omega arith, omega arith, omega arith)) (λ i. omega (arith, i.2)) (decides-le (suc c.page_at-t.result) c.args.total)

pub returns-else-t-ne0 : goal.returns-else-t-ne0
unfolding Inside
returns-else-t-ne0 c = grind (arith, nat_tests)
