-- `bits::search::short_run` meets its contract. Assumes nothing.
use mathlib.Core.Path.{◌≡◌, sym, ◌∙◌}
use Prim.Native.Nat.{◌+◌, ◌-◌, ◌*◌}
use native.Mathlib.Omega.{arith}
use Rattle.book.specs.Words.{vol}
use Rattle.bits.proofs.BitsIn.{word-whole}
use Rattle.bits.proofs.Paired.{paired-start, paired-found, paired_end, paired-next}
use Rattle.bits.proofs.search.short_run.Goals as goal

pub loop-i-init : goal.loop-i-init
loop-i-init c =
    paired-start c.args.pages (vol c.args.img.now) c.args.n c.requires.2 c.requires.3 c.last_word.result c.next_pair-x.result (omega arith) c.last_word.ensures
    c.next_pair-x.ensures

pub returns-in-Some : goal.returns-in-Some
returns-in-Some c =
    (let e : (c.loop-i.i - 1 + 1) * 16 + c.in-Some.s ≡ c.loop-i.i * 16 + c.in-Some.s = omega arith in e)
    ∙ sym (paired-found c.args.pages (vol c.args.img.now) c.args.n c.requires.2 c.requires.3 c.loop-i.i c.loop-i.x c.loop-i.invariant c.in-Some.s c.in-Some.ensures)

pub loop-i-preserved : goal.loop-i-preserved
loop-i-preserved c =
    let v = vol c.args.img.now in
    paired-next c.args.pages v c.args.n c.requires.2 c.requires.3 c.loop-i.i c.loop-i.x c.loop-i.invariant c.in_default.ensures (c.loop-i.i - 1)
    c.word_from.result c.next_pair-x-in-loop-i.result (omega arith) (omega arith)
    (word-whole c.args.pages v c.args.b c.requires.1 (c.loop-i.i - 1) c.word_from.result c.word_from.ensures (omega (arith, c.loop-i.invariant.most))) c.next_pair-x-in-loop-i.ensures

pub returns : goal.returns
returns c =
    c.unwrap_or.ensures
    ∙ sym (paired_end c.args.pages (vol c.args.img.now) c.args.n c.requires.2 c.requires.3 c.loop-i.i c.loop-i.x c.loop-i.invariant (omega arith) c.start_in-2.result c.start_in-2.ensures)
