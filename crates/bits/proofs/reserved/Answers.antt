-- `bits::reserved` meets its contract. Assumes nothing.
use mathlib.Core.Path.{◌≡◌, refl, ap, ◌∙◌}
use Prim.Native.Nat.{◌%◌, ◌^◌, ℕ, ◌*◌, ◌/◌, ◌<◌}
use native.Mathlib.Omega.{arith}
use lib.Count.{ones}
use Rattle.sums.specs.Sum.{sum}
use Rattle.book.specs.Words.{vol}
use Rattle.book.specs.Bits.{bit, reserved}
use Rattle.page.specs.Parts.{word_from}
use Rattle.bits.proofs.Places.{sum-full, sum-last, sum-bits-le}
use Rattle.bits.proofs.reserved.Goals as goal

pub loop-i-init : goal.loop-i-init
unfolding sum
loop-i-init c = refl

pub overflow_add-n : goal.overflow_add-n
overflow_add-n c = omega (arith, sum-bits-le c.args.pages (vol c.args.img.now) (c.loop-i.i * 16))

pub loop-i-preserved : goal.loop-i-preserved
loop-i-preserved c =
    let v = vol c.args.img.now in
    let lt : word_from v c.args.b c.loop-i.i < 65536 = omega (arith, c.word_from.ensures) in
    omega (arith, sum-full c.args.pages v c.args.b c.requires.1 c.loop-i.i lt (omega arith), ap ones c.word_from.ensures)

pub returns-then-rest-eq0 : goal.returns-then-rest-eq0
unfolding reserved
returns-then-rest-eq0 c =
    let e : c.loop-i.i * 16 ≡ c.args.pages = omega arith in
    c.loop-i.invariant ∙ ap (λ (k : ℕ). sum k (bit c.args.pages (vol c.args.img.now))) e

pub overflow_add-result : goal.overflow_add-result
overflow_add-result c = omega (arith, sum-bits-le c.args.pages (vol c.args.img.now) (c.loop-i.i * 16))

pub returns : goal.returns
unfolding reserved
returns c =
    let v = vol c.args.img.now in
    let e : c.loop-i.i ≡ c.args.pages / 16 = omega arith in
    let w = ap (λ (x : ℕ). ones (x % 2 ^ (c.args.pages % 16))) c.word_from-2.ensures in
    omega (arith, sum-last c.args.pages v c.args.b c.requires.1, ap (λ (k : ℕ). sum (k * 16) (bit c.args.pages v)) e, w)
