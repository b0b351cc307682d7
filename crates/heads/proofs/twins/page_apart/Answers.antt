use native.Mathlib.Omega.{arith}
use Rattle.book.specs.Words.{vol}
use Rattle.book.specs.Trees.{root_by}
use Rattle.book.specs.Decides.{holds, fails}
use Rattle.heads.specs.Span.{span_none, span_more, span-at}
use Rattle.page.proofs.Deciding.{never}
use Rattle.heads.proofs.Alike.{page-fresh}
use Rattle.heads.proofs.Hashed.{stamped-page}
use Rattle.heads.proofs.twins.page_apart.Goals as goal

pub returns-then-q-eq0 : goal.returns-then-q-eq0
returns-then-q-eq0 c = let v = vol c.args.img.now in let r = root_by c.args.pointer.flags c.args.pointer.page 0 in (
  page-fresh v r c.args.n c.args.base c.root_page-q.result c.args.first c.requires.3 c.root_page-q.ensures.0 (omega arith),
  λ e. stamped-page v r c.args.n c.args.base c.root_page-q.result c.args.first c.args.table.now c.requires.3 c.root_page-q.ensures.0 (omega arith) c.requires.5,
)

pub loop-y-init : goal.loop-y-init
loop-y-init c = (span_none _ _, c.requires.5)

pub returns-then-not-entry_apart : goal.returns-then-not-entry_apart
returns-then-not-entry_apart c = ((λ s. fails c.entry_apart.result _ c.entry_apart.ensures.0 c.if-not-entry_apart.true-raw (span-at _ _ _ s c.loop-y.y (omega arith) (omega arith))), λ e. never e)

pub loop-y-preserved : goal.loop-y-preserved
loop-y-preserved c = (span_more _ _ _ c.loop-y.invariant.0 (holds c.entry_apart.result _ c.entry_apart.ensures.0 c.if-not-entry_apart.false-raw), c.entry_apart.ensures.1)
