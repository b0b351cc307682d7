-- `convert::volume::filled` meets its contract. Assumes nothing.
use Rattle.book.specs.Words.{vol}
use Rattle.book.specs.Decides.{holds, fails}
use Rattle.page.proofs.Deciding.{decides-iff}
use Rattle.convert.proofs.Passes.{filled-end, all-parts, parts-users, parts-objects}
use Rattle.convert.proofs.volume.filled.Goals as goal

pub returns-then-not-filled_at : goal.returns-then-not-filled_at
returns-then-not-filled_at c = λ f. fails c.filled_at.result _ c.filled_at.ensures c.if-not-filled_at.true-raw f.volume

pub returns-then-not-all_filled : goal.returns-then-not-all_filled
returns-then-not-all_filled c = λ f. fails c.all_filled.result _ c.all_filled.ensures c.if-not-all_filled.true-raw (parts-users c.args.mark (vol c.args.img.now) f)

pub returns : goal.returns
returns c =
    let v = vol c.args.img.now in
    decides-iff c.all_filled-2.result _ _
    (λ f. all-parts c.args.mark v (holds c.filled_at.result _ c.filled_at.ensures c.if-not-filled_at.false-raw) (holds c.all_filled.result _ c.all_filled.ensures c.if-not-all_filled.false-raw) (filled-end v c.objects_end.result c.objects_end.ensures c.args.mark f))
    (λ f. parts-objects c.args.mark v c.objects_end.result c.objects_end.ensures.most f) c.all_filled-2.ensures
