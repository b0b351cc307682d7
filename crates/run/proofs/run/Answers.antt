use native.Mathlib.Omega.{arith}
use mathlib.Core.Path.{◌≡◌, ◌∙◌, ap, subst}
use Prim.Native.Nat.{ℕ}
use lib.ListN.{length}
use Rattle.book.specs.Decides.{holds, fails}
use Rattle.book.specs.Run.{Made, none, all}
use Rattle.run.proofs.Going.{step-length, again, again-ready, stops}
use Rattle.run.proofs.run.Goals as goal

pub loop-i-init : goal.loop-i-init
loop-i-init c = (none, tt)

pub step_part-s-requires : goal.step_part-s-requires
step_part-s-requires c = omega (arith, c.most-n.ensures)

pub make_step-requires : goal.make_step-requires
make_step-requires c = (
  c.loop-i.invariant.1,
  ap length c.step_part-s.ensures ∙ step-length c.args.steps.now c.loop-i.i (omega (arith, c.most-n.ensures)),
  omega (arith, c.most-n.ensures, c.loop-i.auto.out),
)

pub returns-then-not-make_step : goal.returns-then-not-make_step
returns-then-not-make_step c =
    stops _ _ _ _ _ _ _ _ _ _ _ _ _ _ _ c.loop-i.invariant.0 c.step_part-s.ensures c.make_step.ensures (omega (arith, c.most-n.ensures))
    (fails c.make_step.result _ c.make_step.ensures.done c.if-not-make_step.true-raw)

pub loop-i-preserved : goal.loop-i-preserved
loop-i-preserved c =
    let z = holds c.make_step.result _ c.make_step.ensures.done c.if-not-make_step.false-raw in (
      again _ _ _ _ _ _ _ _ _ _ _ _ _ _ _ c.loop-i.invariant.0 c.step_part-s.ensures c.make_step.ensures z,
      again-ready _ _ _ _ _ _ _ _ _ _ _ _ _ _ _ c.loop-i.invariant.0 c.step_part-s.ensures c.make_step.ensures z,
    )

pub returns : goal.returns
returns c =
    let e : c.loop-i.i ≡ c.most-n.result = omega arith in
    all {n = c.most-n.result} c.most-n.ensures (subst (λ (k : ℕ). Made c.args.steps.now c.args.text.now c.args.words.now c.args.img.now c.args.list.now c.args.out.now k c.loop-i.img c.loop-i.list c.loop-i.out) e c.loop-i.invariant.0)
