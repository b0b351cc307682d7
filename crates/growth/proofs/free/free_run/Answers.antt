-- `growth::free::free_run` meets its contract. Assumes nothing.
use mathlib.Core.Path.{refl, ◌∙◌}
use Prim.Native.Nat.{◌+◌, ◌<◌}
use native.Mathlib.Omega.{arith}
use Rattle.book.specs.Image.{pages}
use Rattle.growth.proofs.Walks.{run_of, freeing-next, clear-is, run_none, run_more}
use Rattle.growth.proofs.free.free_run.Goals as goal

pub loop-i-init : goal.loop-i-init
loop-i-init c = (refl, run_none c.args.img.now c.args.b c.requires.0 c.args.s)

pub loop-i-preserved : goal.loop-i-preserved
loop-i-preserved c =
    let g = run_of c.args.s c.loop-i.i in let F = freeing-next c.args.img.now c.args.b c.requires.0 c.loop-i.img g c.loop-i.invariant.0 c.loop-i.invariant.1 in
    let lt : c.args.s + c.loop-i.i < pages c.loop-i.img = omega arith in (
      c.clear.auto.img ∙ c.loop-i.invariant.0,
      run_more c.args.img.now c.args.b c.requires.0 c.loop-i.img g c.loop-i.invariant.0 c.loop-i.invariant.1 c.args.s c.loop-i.i (λ p. refl) _
          (clear-is c.loop-i.img c.args.b F _ (c.args.s + c.loop-i.i) (omega (arith, c.requires.2 (omega arith))) lt c.clear.ensures),
    )
