-- `bits::claim_run` meets its contract. Assumes nothing.
use mathlib.Core.Path.{◌≡◌, sym, ap, ap₂, ◌∙◌, subst}
use Prim.Native.Nat.{ℕ, ◌+◌, ◌-◌}
use native.Mathlib.Omega.{arith}
use Rattle.book.specs.Words.{Vol, vol}
use Rattle.book.specs.Bits.{claim, claim_run}
use Rattle.bits.specs.File.{BitsAt}
use Rattle.bits.proofs.Places.{run_none, run_more, bits-run}
use Rattle.bits.proofs.claim_run.Goals as goal

pub loop-p-init : goal.loop-p-init
loop-p-init c = λ P f h. run_none P _ c.args.s ∙ ap (claim_run P (vol c.args.img.now) c.args.s) (omega arith)

pub loop-p-preserved : goal.loop-p-preserved
loop-p-preserved c = λ P f h.
    let v = vol c.args.img.now in
    let k : ℕ = c.loop-p.p - c.args.s in
    let e = c.loop-p.invariant P f h in
    let g : BitsAt P (vol c.loop-p.img) c.args.b = subst (λ (w : Vol). BitsAt P w c.args.b) (sym e) (bits-run P v c.args.b c.args.s k (omega arith) (omega arith) f) in
    c.claim.ensures P g (omega arith) ∙ ap₂ (claim P) e (let q : c.loop-p.p ≡ c.args.s + k = omega arith in q) ∙ sym (run_more P v c.args.s k)
    ∙ ap (claim_run P v c.args.s) (let q : k + 1 ≡ c.loop-p.p + 1 - c.args.s = omega arith in q)
