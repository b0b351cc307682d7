-- `steps::format::set_run` meets its contract. Assumes nothing.
use Rattle.std.proofs.Common.{◌+◌, sym, refl, ap, ◌∙◌, subst, add-one, arith}
use Rattle.book.specs.Words.{Vol, vol}
use Rattle.book.specs.Bits.{mark}
use Rattle.book.specs.Format.{mark_run}
use Rattle.bits.specs.File.{BitsAt}
use Rattle.steps.proofs.Formatted.{bits-marks}
use Rattle.steps.proofs.format.set_run.Goals as goal

pub loop-i-init : goal.loop-i-init
unfolding mark_run
loop-i-init c = λ P f h. refl

pub loop-i-preserved : goal.loop-i-preserved
unfolding mark_run
loop-i-preserved c = λ P f h.
    let v = vol c.args.img.now in
    let e = c.loop-i.invariant P f h in
    let g : BitsAt P (vol c.loop-i.img) c.args.b = subst (λ (w : Vol). BitsAt P w c.args.b) (sym e) (bits-marks P v c.args.b c.args.b c.loop-i.i (omega arith) f) in
    c.set.ensures P g (omega arith) ∙ ap (λ (w : Vol). mark P w (c.args.b + c.loop-i.i) 1) e ∙ ap (mark_run P v c.args.b) (sym (add-one c.loop-i.i))
