use mathlib.Core.Path.{◌≡◌, refl, ap, ◌∙◌}
use mathlib.Core.List.{List}
use Prim.Native.Nat.{ℕ, ◌*◌}
use native.Mathlib.Omega.{arith}
use Rattle.book.specs.Run.{flat, put_four}
use Rattle.run.proofs.Flat.{flat_filled, flat-next}
use Rattle.run.proofs.mend.tell.Goals as goal

pub loop-k-init : goal.loop-k-init
unfolding flat
loop-k-init c = refl

pub told_at-c-requires : goal.told_at-c-requires
told_at-c-requires c = omega (arith, c.requires.1)

pub overflow_mul-k : goal.overflow_mul-k
overflow_mul-k c = omega (arith, c.requires.1)

pub four-requires : goal.four-requires
four-requires c = omega (arith, c.loop-k.auto.list, c.requires.0)

pub loop-k-preserved : goal.loop-k-preserved
loop-k-preserved c =
    c.four.ensures ∙ ap (λ (z : List ℕ). put_four z (4 * c.loop-k.k) c.told_at-c.result.page c.told_at-c.result.word c.told_at-c.result.old c.told_at-c.result.new) c.loop-k.invariant
    ∙ flat-next _ _ c.loop-k.k c.told_at-c.result (omega (arith, c.requires.0)) (omega (arith, c.requires.1, c.requires.2)) c.told_at-c.ensures

pub returns : goal.returns
returns c = let e : c.loop-k.k ≡ c.args.n = omega arith in c.loop-k.invariant ∙ ap (flat_filled _ _) e
