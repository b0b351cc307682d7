-- `bits::marks::mark` meets its contract. Assumes nothing.
use mathlib.Core.Path.{refl, sym, ◌∙◌}
use native.Mathlib.Omega.{arith}
use Rattle.bits.specs.Marks.{marked}
use Rattle.bits.proofs.Marked.{marked-le, mark-new}
use Rattle.bits.proofs.marks.mark.Goals as goal

pub returns-then-digit_in-ne0 : goal.returns-then-digit_in-ne0
unfolding marked
returns-then-digit_in-ne0 c = (omega (arith, c.digit_in.ensures.0, c.if-digit_in-ne0.true, marked-le c.args.marks.now c.args.p), refl)

pub returns : goal.returns
unfolding marked
returns c = mark-new c.args.marks.now c.args.p c.with_one.result c.requires (sym c.digit_in.ensures.0 ∙ c.if-digit_in-ne0.false) c.with_one.ensures
