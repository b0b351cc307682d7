use Rattle.std.proofs.lemmas.Result.{err_from_is_err_and}
use Rattle.salvage.proofs.Closing.{refused-13}
use Rattle.salvage.proofs.mend_good.Goals as goal

pub returns-in_err-left : goal.returns-in_err-left
returns-in_err-left c =
    let p = err_from_is_err_and c.from_residual.result c.from_residual.ensures.1 in
    let n = c.in_err-left.ensures in
    rw (p.1, p.2, n.0) (refused-13 _ _ _ c.requires.4 c.requires.0.whole c.requires.0.pointed n.1)

pub mend_sure-requires : goal.mend_sure-requires
mend_sure-requires c =
    let r = c.in_ok-left.ensures in
    (record { good = c.requires.0; sixteen = λ i. (c.slice_known-1.given i).fits; affords = r.0 }, c.requires.1, r.1, r.2, c.requires.4)
