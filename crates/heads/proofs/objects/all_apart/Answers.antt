use native.Mathlib.Omega.{arith}
use borrow.Author.Tests.{not-false}
use Rattle.book.specs.Decides.{holds, fails}
use Rattle.heads.specs.Span.{span_none, span_more, span-at}
use Rattle.heads.proofs.objects.all_apart.Goals as goal

pub loop-u-init : goal.loop-u-init
loop-u-init c = (c.requires.2, span_none _ _)

pub returns-then-not-apart : goal.returns-then-not-apart
returns-then-not-apart c = λ s. fails c.apart.result _ c.apart.ensures.0 c.if-not-apart.true-raw (span-at _ _ _ s c.loop-u.u (omega arith) (omega arith))

pub loop-u-preserved : goal.loop-u-preserved
loop-u-preserved c = (c.apart.ensures.1 (not-false _ c.if-not-apart.false-raw), span_more _ _ _ c.loop-u.invariant.1 (holds c.apart.result _ c.apart.ensures.0 c.if-not-apart.false-raw))
