-- `convert::field::refill_at` meets its contract. Assumes nothing.
use mathlib.Core.Path.{refl, ap, ◌∙◌}
use Prim.Native.Nat.{◌+◌}
use Rattle.book.specs.Words.{Vol, vol, put}
use Rattle.convert.proofs.Fields.{row-none, row_more, word-is}
use Rattle.convert.proofs.field.refill_at.Goals as goal

pub loop-i-init : goal.loop-i-init
loop-i-init c = (refl, row-none _ _ _ _)

pub loop-i-preserved : goal.loop-i-preserved
loop-i-preserved c =
    let v : Vol = vol c.args.img.now in (
      c.put_word.auto.img ∙ c.loop-i.invariant.0,
      c.put_word.ensures ∙ ap (λ (x : Vol). put x c.args.p (c.args.k + c.loop-i.i) c.word_for-w.result) c.loop-i.invariant.1
          ∙ row_more v c.args.p c.args.k c.loop-i.i _ c.word_for-w.result (word-is c.args.n v c.args.p c.args.k c.args.mark c.loop-i.i c.end_at-l.result c.word_for-w.result (vol c.loop-i.img) c.loop-i.invariant.1 c.end_at-l.ensures c.word_for-w.ensures),
    )
