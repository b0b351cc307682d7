-- `who::tell::who` meets its contract. Assumes nothing.
use mathlib.Core.Path.{sym, ◌∙◌, subst}
use Prim.Native.Nat.{◌≤◌, ◌<◌}
use native.Mathlib.Omega.{arith}
use Rattle.book.specs.Words.{vol}
use Rattle.book.specs.Holders.{Told}
use Rattle.book.specs.Image.{pages}
use Rattle.laws.specs.Count.Who.{told_free}
use Rattle.bits.specs.File.{BitsAt}
use Rattle.bits.proofs.Places.{bits_at}
use Rattle.tree.proofs.Ready.{ready-objects}
use Rattle.who.specs.Turns.{positions}
use Rattle.who.proofs.Telling.{ready-volume, told-master, told_none, told_at, none-three}
use Rattle.who.proofs.tell.who.Goals as goal

pub returns-then-p-eq0 : goal.returns-then-p-eq0
returns-then-p-eq0 c = told-master (pages c.args.img.now) (vol c.args.img.now) c.args.p c.if-p-eq0.true

pub test-requires : goal.test-requires
test-requires c = let v = vol c.args.img.now in let P = pages c.args.img.now in let f = subst (BitsAt P v) (sym c.page_at-b.ensures.0) (bits_at P v c.requires.0.sound.r1) in
    omega (arith, f.fits, c.requires.1)

pub returns-then-test-eq0 : goal.returns-then-test-eq0
returns-then-test-eq0 c =
    let v = vol c.args.img.now in let P = pages c.args.img.now in let f = subst (BitsAt P v) (sym c.page_at-b.ensures.0) (bits_at P v c.requires.0.sound.r1) in
    told_free P v c.requires.0.sound c.args.p c.requires.1 (sym (c.test.ensures.0 P f c.requires.1) ∙ c.if-test-eq0.true)

pub object_ends-ends-requires : goal.object_ends-ends-requires
object_ends-ends-requires c = ready-objects _ c.requires.0

pub turn_from-requires : goal.turn_from-requires
turn_from-requires c = (ready-volume _ c.requires.0, c.object_ends-ends.ensures, omega arith, omega arith, omega arith)

pub returns-in-Some : goal.returns-in-Some
returns-in-Some c = let d = ready-volume _ c.requires.0 in
    subst (Told (pages c.args.img.now) (vol c.args.img.now) c.args.p) (sym c.holder_at.ensures)
    (told_at (pages c.args.img.now) (vol c.args.img.now) d.within (omega (arith, c.requires.0.whole.most)) c.args.p (omega arith) c.in-Some.system c.in-Some.ensures.here (omega (arith, c.in-Some.ensures.to)))

pub turn_from-requires-2 : goal.turn_from-requires-2
turn_from-requires-2 c = (ready-volume _ c.requires.0, c.object_ends-ends.ensures, omega arith, omega arith, omega arith)

pub returns-in-Some-turn_from : goal.returns-in-Some-turn_from
returns-in-Some-turn_from c = let d = ready-volume _ c.requires.0 in
    subst (Told (pages c.args.img.now) (vol c.args.img.now) c.args.p) (sym c.holder_at-in-Some-turn_from.ensures)
    (told_at (pages c.args.img.now) (vol c.args.img.now) d.within (omega (arith, c.requires.0.whole.most)) c.args.p (omega arith) c.in-Some-turn_from.data c.in-Some-turn_from.ensures.here c.in-Some-turn_from.ensures.to)

pub turn_from-requires-3 : goal.turn_from-requires-3
turn_from-requires-3 c = (ready-volume _ c.requires.0, c.object_ends-ends.ensures, omega arith, omega arith, omega arith)

pub returns-in-Some-turn_from-2 : goal.returns-in-Some-turn_from-2
returns-in-Some-turn_from-2 c = let d = ready-volume _ c.requires.0 in
    subst (Told (pages c.args.img.now) (vol c.args.img.now) c.args.p) (sym c.holder_at-in-Some-turn_from-2.ensures)
    (told_at (pages c.args.img.now) (vol c.args.img.now) d.within (omega (arith, c.requires.0.whole.most)) c.args.p (omega arith) c.in-Some-turn_from-2.block c.in-Some-turn_from-2.ensures.here (omega (arith, c.in-Some-turn_from-2.ensures.to)))

pub returns : goal.returns
returns c =
    let d = ready-volume _ c.requires.0 in let P = pages c.args.img.now in let v = vol c.args.img.now in
    let few : P ≤ positions = omega (arith, c.requires.0.whole.most) in let pos : 0 < c.args.p = omega (arith, c.if-p-eq0.false) in
    told_none P v d.within few c.args.p pos c.requires.0.sound.r2
    (none-three P v d.within few c.args.p pos 137438953472 171798691840 c.in_default.ensures c.in_default-turn_from-2.ensures c.in_default-turn_from.ensures)
