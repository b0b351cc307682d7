-- `page::write::put_from` meets its contract. Assumes nothing.
use mathlib.Core.Path.{◌≡◌, ap, ◌∙◌}
use Prim.Native.Nat.{ℕ, ◌+◌, ◌*◌, ◌/◌, ◌%◌}
use native.Mathlib.Omega.{arith}
use lib.ListN.{set}
use Rattle.book.specs.Words.{vol}
use Rattle.book.specs.Written.{vol-set}
use Rattle.page.proofs.write.put_from.Goals as goal

pub returns : goal.returns
returns c =
    let e : 1024 * c.args.p + c.args.i ≡ 1024 * (c.args.p + c.args.i / 1024) + c.args.i % 1024 = omega arith in
    ap (λ (k : ℕ). vol (set c.args.img.now k c.args.x)) e ∙ vol-set c.args.img.now (c.args.p + c.args.i / 1024) (c.args.i % 1024) c.args.x (omega arith) (omega arith)
