-- `bits::search::long_run` meets its contract. Assumes nothing.
use mathlib.Core.Path.{◌≡◌, sym, ◌∙◌}
use Prim.Native.Nat.{◌+◌, ◌-◌, ◌*◌}
use native.Mathlib.Omega.{arith}
use Rattle.book.specs.Words.{vol}
use Rattle.bits.proofs.BitsIn.{word-whole}
use Rattle.bits.proofs.Downwards.{down-found, down-end, down-next}
use Rattle.bits.proofs.search.long_run.Goals as goal

pub returns-in-Some : goal.returns-in-Some
returns-in-Some c =
    (let e : (c.loop-i.i - 1 + 1) * 16 + c.in-Some.s ≡ c.loop-i.i * 16 + c.in-Some.s = omega arith in e)
    ∙ sym (down-found c.args.pages (vol c.args.img.now) c.args.n c.loop-i.i c.loop-i.w c.loop-i.run c.requires.2 c.loop-i.invariant c.in-Some.s c.in-Some.ensures)

pub loop-i-preserved : goal.loop-i-preserved
loop-i-preserved c =
    let v = vol c.args.img.now in
    down-next c.args.pages v c.args.n c.loop-i.i c.loop-i.w c.loop-i.run c.requires.2 c.loop-i.invariant c.in_default.ensures (c.loop-i.i - 1)
    c.word_from-w.result c.left_in-run.result (omega arith) c.left_in-run.ensures
    (word-whole c.args.pages v c.args.b c.requires.1 (c.loop-i.i - 1) c.word_from-w.result c.word_from-w.ensures (omega (arith, c.loop-i.invariant.most)))

pub returns : goal.returns
returns c =
    c.unwrap_or.ensures
    ∙ sym (down-end c.args.pages (vol c.args.img.now) c.args.n c.loop-i.i c.loop-i.w c.loop-i.run c.requires.2 c.loop-i.invariant (omega arith) c.run_in-2.result c.run_in-2.ensures)
