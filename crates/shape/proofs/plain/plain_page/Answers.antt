use native.Mathlib.Omega.{arith}
use Prim.Native.Nat.{◌+◌, ◌*◌}
use Rattle.std.proofs.Common.{rules}
use Rattle.book.specs.Image.{pages}
use Rattle.book.specs.Words.{vol}
use Rattle.tree.specs.Reach.{entry_in}
use Rattle.shape.specs.Shapes.{EntryRight}
use Rattle.shape.proofs.Each.{each-true}
use Rattle.shape.proofs.Objects.{right-entries}
use Rattle.shape.proofs.plain.plain_page.Goals as goal

pub returns : goal.returns
returns c = λ t. let v = vol c.args.img.now in let P = pages c.args.img.now in
    right-entries v c.args.n c.args.q c.requires.4 P (each-true (λ k. EntryRight P v (entry_in v c.args.q (32 * c.args.n + k))) 0 32 (omega arith) c.all.result c.all.ensures.ran (λ k r q m. search rules) t)
