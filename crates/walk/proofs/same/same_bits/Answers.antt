use mathlib.Core.Path.{refl}
use Rattle.walk.proofs.Lows.{same-part}
use Prim.Native.Nat.{◌+◌, ◌-◌, ◌*◌, ◌/◌}
use native.Mathlib.Omega.{arith}
use Rattle.walk.proofs.same.same_bits.Goals as goal

pub returns : goal.returns
returns c = same-part c.args.img.now c.args.b c.args.pages (1024 * c.args.b + (c.args.pages + 15) / 16 - 1024 * c.args.b) c.requires.1 _ refl (omega arith) c.args.marks.now c.same_words.result c.same_words.ensures
