-- `page::read::word_from` meets its contract. Assumes nothing.
use mathlib.Core.Path.{◌≡◌, sym, ap, ◌∙◌}
use Prim.Native.Nat.{ℕ, ◌+◌, ◌*◌, ◌/◌, ◌%◌}
use native.Mathlib.Omega.{arith}
use lib.ListN.{get_or}
use Rattle.book.specs.Written.{vol-in}
use Rattle.page.proofs.read.word_from.Goals as goal

pub returns : goal.returns
returns c =
    let e : 1024 * c.args.p + c.args.i ≡ 1024 * (c.args.p + c.args.i / 1024) + c.args.i % 1024 = omega arith in
    ap (λ (k : ℕ). get_or c.args.img.now k 0) e ∙ sym (vol-in c.args.img.now (c.args.p + c.args.i / 1024) (c.args.i % 1024) (omega arith))
