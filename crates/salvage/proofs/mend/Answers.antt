use Rattle.book.specs.Decides.{holds, fails}
use Rattle.salvage.proofs.Closing.{refused-1, refused-3}
use Rattle.salvage.proofs.mend.Goals as goal

pub returns-then-not-whole : goal.returns-then-not-whole
returns-then-not-whole c = refused-1 _ _ _ c.requires (fails c.whole.result _ c.whole.ensures c.if-not-whole.true-raw)

pub early-requires : goal.early-requires
early-requires c = holds c.whole.result _ c.whole.ensures c.if-not-whole.false-raw

pub tell-requires : goal.tell-requires
tell-requires c = record { whole = holds c.whole.result _ c.whole.ensures c.if-not-whole.false-raw; lowest = c.in-Err.ensures }

pub mend_kept-requires : goal.mend_kept-requires
mend_kept-requires c =
    let r = c.in-Ok.ensures in
    (holds c.whole.result _ c.whole.ensures c.if-not-whole.false-raw, r.0, r.1, c.requires)

pub returns-in-Err : goal.returns-in-Err
returns-in-Err c = refused-3 _ _ _ c.requires (holds c.whole.result _ c.whole.ensures c.if-not-whole.false-raw) c.tell.result c.tell.ensures
