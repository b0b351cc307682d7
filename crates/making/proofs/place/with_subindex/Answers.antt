-- `making::place::with_subindex` meets its contract. Assumes nothing.
use Rattle.book.specs.Image.{pages}
use Rattle.book.specs.Words.{vol}
use Rattle.making.proofs.Between.{sub-kept, sub-new}
use native.Mathlib.Omega.{arith}
use Rattle.making.proofs.place.with_subindex.Goals as goal

pub returns-else-raises-ne0 : goal.returns-else-raises-ne0
returns-else-raises-ne0 c = sub-kept (pages c.args.img.now) (vol c.args.img.now) c.args.u (omega arith)

pub returns-then-raises-ne0 : goal.returns-then-raises-ne0
returns-then-raises-ne0 c = sub-new (pages c.args.img.now) (vol c.args.img.now) c.args.u (omega arith) _ c.raise.ensures
