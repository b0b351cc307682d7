-- `bits::pair::start_in` meets its contract. Assumes nothing.
use mathlib.Core.Path.{◌≡◌, subst}
use Prim.Native.Nat.{ℕ, ◌+◌}
use native.Mathlib.Omega.{arith}
use Rattle.bits.specs.Run.{Starts}
use Rattle.bits.specs.Word.{ZerosAbove}
use Rattle.bits.proofs.Digits.{digit_not}
use Rattle.bits.proofs.Runs.{starts-one, starts_more, start-full, start_none, start-found}
use Rattle.bits.proofs.pair.start_in.Goals as goal

pub returns-then-lower-eq-FULL : goal.returns-then-lower-eq-FULL
returns-then-lower-eq-FULL c = start-full c.args.x c.args.n c.requires.0 c.requires.1 (omega (arith, c.lower.ensures))

pub loop-init : goal.loop-init
loop-init c = starts-one c.args.x _ (omega arith) (λ j h. digit_not j 32 c.args.x h (omega arith))

pub returns-then-lower-eq0 : goal.returns-then-lower-eq0
returns-then-lower-eq0 c =
    start_none c.args.x c.args.n c.requires.0 c.requires.1 (c.loop.counter + 1) c.with_next-g.result (omega arith) (omega (arith, c.lower-in-loop.ensures))
    (starts_more c.args.x c.loop.counter c.loop.g c.with_next-g.result (omega arith) (omega arith) c.loop.invariant c.with_next-g.ensures)

pub loop-preserved : goal.loop-preserved
loop-preserved c = starts_more c.args.x c.loop.counter c.loop.g c.with_next-g.result (omega arith) (omega arith) c.loop.invariant c.with_next-g.ensures

pub returns : goal.returns
returns c =
    let e : c.loop.counter ≡ c.args.n = omega arith in
    start-found c.args.x c.args.n c.requires.0 c.requires.1 c.loop.g c.zeros_above.result (subst (λ (k : ℕ). Starts c.args.x k c.loop.g) e c.loop.invariant)
    (subst (λ (w : ℕ). ZerosAbove w c.zeros_above.result) c.lower-2.ensures c.zeros_above.ensures) c.checked_sub.result c.checked_sub.ensures
