-- `who::kinds::kinds_from` meets its contract. Assumes nothing.
use mathlib.Core.Path.{◌≡◌, sym, ◌∙◌}
use Prim.Native.Nat.{ℕ, ◌+◌, ◌*◌, ◌<◌}
use native.Mathlib.Omega.{arith}
use Rattle.book.specs.Words.{vol}
use Rattle.book.specs.Image.{pages}
use Rattle.who.specs.Turns.{turns, kind_page, turn_page}
use Rattle.who.proofs.Leasts.{part_at, part_none}
use Rattle.who.proofs.ByKind.{kind-turn}
use Rattle.who.proofs.kinds.kinds_from.Goals as goal

pub returns-in-Some : goal.returns-in-Some
returns-in-Some c =
    let P = pages c.args.img.now in let v = vol c.args.img.now in let k = c.loop-kind.kind in
    let into : (j : ℕ) → j < turns → turn_page P v (turns * k + j) ≡ c.args.p → kind_page P v k j ≡ c.args.p = λ j h q. sym (kind-turn P v k j h) ∙ q in
    part_at (λ (y : ℕ). turn_page P v y ≡ c.args.p) (λ (y : ℕ). kind_page P v k y ≡ c.args.p) (turns * k) c.loop-kind.from turns c.args.x into
    c.in-Some.y c.loop-kind.invariant.none c.in-Some.ensures.0 (turns * c.args.kinds) c.loop-kind.invariant.on (omega arith) (λ q. kind-turn P v k c.in-Some.y c.in-Some.ensures.0.to ∙ q)

pub loop-kind-preserved : goal.loop-kind-preserved
loop-kind-preserved c =
    let P = pages c.args.img.now in let v = vol c.args.img.now in let k = c.loop-kind.kind in
    let into : (j : ℕ) → j < turns → turn_page P v (turns * k + j) ≡ c.args.p → kind_page P v k j ≡ c.args.p = λ j h q. sym (kind-turn P v k j h) ∙ q in
    record {
      part = omega arith;
      on = omega (arith, c.loop-kind.invariant.on, c.loop-kind.invariant.part);
      none = part_none (λ (y : ℕ). turn_page P v y ≡ c.args.p) (λ (y : ℕ). kind_page P v k y ≡ c.args.p) (turns * k) c.loop-kind.from turns c.args.x into
          (turns * (k + 1) + 0) (omega arith) c.loop-kind.invariant.none c.in_default.ensures.0;
      search = c.in_default.ensures.1;
      kept = omega arith;
      kept_tops = omega arith;
    }
