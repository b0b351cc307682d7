use Prim.Native.Nat.{◌<◌}
use native.Mathlib.Omega.{arith}
use Rattle.std.proofs.Common.{rules}
use Rattle.std.proofs.lemmas.Iterator.{serves_from_Range}
use Rattle.book.specs.Words.{vol}
use Rattle.book.specs.Image.{pages}
use Rattle.book.specs.Pointers.{slot}
use Rattle.heads.specs.Slots.{Slots}
use Rattle.heads.proofs.Each.{span-all}
use Rattle.heads.proofs.objects.indexes_ok.Goals as goal

pub all-requires-clause-callable : goal.all-requires-clause-callable
unfolding Slots
all-requires-clause-callable c = serves_from_Range (λ x q k. search rules) (λ x h l. let b : slot (vol c.args.img.now) c.args.top x < pages c.args.img.now = (c.requires.1 x (omega arith)).0 in search rules)

pub returns : goal.returns
returns c = let P = pages c.args.img.now in let v = vol c.args.img.now in
    span-all (λ i. Slots P v (slot v c.args.top i) 512) 0 4 (omega arith) c.all.result c.all.ensures.ran (λ x t q k. search rules)
