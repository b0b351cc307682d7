-- `page::read::slot_at` meets its contract. Assumes nothing.
use mathlib.Core.Path.{◌≡◌, sym, ap, ◌∙◌}
use Prim.Native.Nat.{ℕ}
use native.Mathlib.Omega.{arith}
use Rattle.book.specs.Words.{vol}
use Rattle.book.specs.Pointers.{slot}
use Rattle.page.proofs.Slots.{slot-absent, slot-two}
use Rattle.page.proofs.read.slot_at.Goals as goal

pub returns-then-b-eq0 : goal.returns-then-b-eq0
returns-then-b-eq0 c =
    let z : c.args.b ≡ 0 = omega arith in
    (sym (ap (λ (b : ℕ). slot (vol c.args.img.now) b c.args.n) z ∙ slot-absent (vol c.args.img.now) c.args.n), omega arith)

pub returns : goal.returns
returns c = (c.two_at.ensures.0 ∙ sym (slot-two (vol c.args.img.now) c.args.b c.args.n (omega arith)), c.two_at.ensures.1)
