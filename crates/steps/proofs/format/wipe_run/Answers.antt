-- `steps::format::wipe_run` meets its contract. Assumes nothing.
use Rattle.std.proofs.Common.{◌+◌, sym, refl, ap, ◌∙◌, add-one}
use Rattle.book.specs.Words.{Vol, vol, wipe}
use Rattle.book.specs.Format.{wipe_run}
use Rattle.steps.proofs.format.wipe_run.Goals as goal

pub loop-i-init : goal.loop-i-init
unfolding wipe_run
loop-i-init c = refl

pub loop-i-preserved : goal.loop-i-preserved
unfolding wipe_run
loop-i-preserved c = c.zero_page.ensures ∙ ap (λ (w : Vol). wipe w (c.args.b + c.loop-i.i)) c.loop-i.invariant ∙ ap (wipe_run (vol c.args.img.now) c.args.b) (sym (add-one c.loop-i.i))
