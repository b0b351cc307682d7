use mathlib.Core.Path.{◌≡◌}
use Prim.Native.Nat.{◌+◌, ◌*◌}
use native.Mathlib.Omega.{arith}
use borrow.Author.Tests.{not-false}
use Rattle.book.specs.Decides.{holds, fails}
use Rattle.heads.specs.Span.{span_none, span-join, span-part}
use Rattle.page.proofs.Deciding.{never}
use Rattle.heads.proofs.Hashed.{stamped-none}
use Rattle.heads.proofs.twins.apart.Goals as goal

pub loop-k-init : goal.loop-k-init
loop-k-init c = let e : c.args.base + 32 * 0 ≡ c.args.base = omega arith in rw e (span_none _ _, stamped-none _ _ _ _ c.requires.4)

pub returns-then-not-page_apart : goal.returns-then-not-page_apart
returns-then-not-page_apart c = ((λ s. fails c.page_apart.result _ c.page_apart.ensures.0 c.if-not-page_apart.true-raw (span-part _ c.args.base _ _ (c.args.base + 256) (omega arith) (omega arith) s)), λ e. never e)

pub loop-k-preserved : goal.loop-k-preserved
loop-k-preserved c = let e : c.args.base + 32 * (c.loop-k.k + 1) ≡ c.args.base + 32 * c.loop-k.k + 32 = omega arith in
    rw e (
      span-join _ _ _ _ c.loop-k.invariant.0 (holds c.page_apart.result _ c.page_apart.ensures.0 c.if-not-page_apart.false-raw),
      c.page_apart.ensures.1 (not-false _ c.if-not-page_apart.false-raw),
    )
