-- `bits::search::free_from` meets its contract. Assumes nothing.
use mathlib.Core.Path.{◌≡◌, sym, ap, ◌∙◌, subst}
use Prim.Native.Nat.{ℕ, suc, ◌-◌, ◌/◌, ◌%◌, max}
use native.Mathlib.Omega.{arith}
use Rattle.book.specs.Words.{vol}
use Rattle.book.specs.Bits.{digit}
use Rattle.bits.proofs.Upwards.{Upwards, from_end, up_start, up_next, up_inside, up_last}
use Rattle.bits.proofs.search.free_from.Goals as goal

pub returns-then-pages-from : goal.returns-then-pages-from
returns-then-pages-from c = sym (from_end c.args.pages (vol c.args.img.now) c.args.from (omega arith))

pub loop-i-init : goal.loop-i-init
loop-i-init c = let v = vol c.args.img.now in
    up_start c.args.pages v c.args.b c.requires.1 c.args.from (omega arith) c.ones_below-w.result (omega arith)
    (λ j. c.ones_below-w.ensures j ∙ ap (λ (x : ℕ). max (digit j x) (1 - (suc j - c.args.from % 16))) c.word_from.ensures)

pub returns-then-w : goal.returns-then-w
returns-then-w c =
    up_inside c.args.pages (vol c.args.img.now) c.args.b c.requires.1 c.args.from c.loop-i.i c.loop-i.w c.loop-i.invariant c.first_clear.result c.first_clear.ensures
    c.if-w.true (omega arith)

pub loop-i-preserved : goal.loop-i-preserved
loop-i-preserved c =
    up_next c.args.pages (vol c.args.img.now) c.args.b c.requires.1 c.args.from c.loop-i.i c.loop-i.w c.loop-i.invariant c.if-w.false c.word_from-w.result (omega arith)
    c.word_from-w.ensures (omega arith)

pub returns : goal.returns
returns c =
    let e : c.loop-i.i ≡ (c.args.pages - 1) / 16 = omega arith in
    c.min.ensures
    ∙ up_last c.args.pages (vol c.args.img.now) c.args.b c.requires.1 c.args.from ((c.args.pages - 1) / 16) c.loop-i.w
    (subst (λ (k : ℕ). Upwards c.args.pages (vol c.args.img.now) c.args.from k c.loop-i.w) e c.loop-i.invariant) c.first_clear-2.result c.first_clear-2.ensures (omega arith)
