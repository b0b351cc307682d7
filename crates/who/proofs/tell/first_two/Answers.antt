-- `who::tell::first_two` meets its contract. Assumes nothing.
use mathlib.Core.Path.{◌≡◌, sym, subst₂}
use Prim.Native.Nat.{ℕ, ◌+◌, ◌≤◌, ◌<◌}
use native.Mathlib.Omega.{arith}
use Rattle.book.specs.Words.{vol}
use Rattle.book.specs.Image.{pages}
use Rattle.book.specs.Pair.{FirstTwo}
use Rattle.who.specs.Least.{Here}
use Rattle.who.specs.Turns.{positions, all_turns, turn_page}
use Rattle.who.proofs.Leasts.{least_some}
use Rattle.who.proofs.Telling.{two-page, some-turn, second-turn, first_two}
use Rattle.who.proofs.tell.first_two.Goals as goal

pub turn_from-requires : goal.turn_from-requires
turn_from-requires c = (c.requires.0, c.requires.2, two-page (pages c.args.img.now) (vol c.args.img.now) c.requires.1 c.args.p c.requires.4, omega arith, omega arith)

pub unwrap-x-requires : goal.unwrap-x-requires
unwrap-x-requires c = let P = pages c.args.img.now in let v = vol c.args.img.now in
    let few : P ≤ positions = omega (arith, c.requires.0.whole.most) in let pos : 0 < c.args.p = two-page P v c.requires.1 c.args.p c.requires.4 in
    least_some (λ (y : ℕ). turn_page P v y ≡ c.args.p) 0 all_turns c.turn_from.result (some-turn P v c.requires.0.within few c.args.p pos c.requires.1 c.requires.4) c.turn_from.ensures

pub turn_from-requires-2 : goal.turn_from-requires-2
turn_from-requires-2 c = let P = pages c.args.img.now in let v = vol c.args.img.now in
    let d : Here (λ (y : ℕ). turn_page P v y ≡ c.args.p) 0 all_turns c.unwrap-x.result = rw c.unwrap-x.ensures at c.turn_from.ensures in
    (c.requires.0, c.requires.2, two-page P v c.requires.1 c.args.p c.requires.4, omega (arith, d.to), omega arith)

pub unwrap-y-requires : goal.unwrap-y-requires
unwrap-y-requires c = let P = pages c.args.img.now in let v = vol c.args.img.now in
    let few : P ≤ positions = omega (arith, c.requires.0.whole.most) in let pos : 0 < c.args.p = two-page P v c.requires.1 c.args.p c.requires.4 in
    let d : Here (λ (y : ℕ). turn_page P v y ≡ c.args.p) 0 all_turns c.unwrap-x.result = rw c.unwrap-x.ensures at c.turn_from.ensures in
    least_some (λ (y : ℕ). turn_page P v y ≡ c.args.p) (c.unwrap-x.result + 1) all_turns c.turn_from-2.result (second-turn P v c.requires.0.within few c.args.p pos c.requires.1 c.requires.4 c.unwrap-x.result d) c.turn_from-2.ensures

pub returns : goal.returns
returns c = let P = pages c.args.img.now in let v = vol c.args.img.now in
    let few : P ≤ positions = omega (arith, c.requires.0.whole.most) in let pos : 0 < c.args.p = two-page P v c.requires.1 c.args.p c.requires.4 in
    let d : Here (λ (y : ℕ). turn_page P v y ≡ c.args.p) 0 all_turns c.unwrap-x.result = rw c.unwrap-x.ensures at c.turn_from.ensures in
    let e : Here (λ (y : ℕ). turn_page P v y ≡ c.args.p) (c.unwrap-x.result + 1) all_turns c.unwrap-y.result = rw c.unwrap-y.ensures at c.turn_from-2.ensures in
    subst₂ (FirstTwo P v c.args.p) (sym c.holder_at.ensures) (sym c.holder_at-2.ensures) (first_two P v c.requires.0.within few c.args.p pos c.requires.1 c.requires.4 c.unwrap-x.result c.unwrap-y.result d e)
