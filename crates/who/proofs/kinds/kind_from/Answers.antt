-- `who::kinds::kind_from` meets its contract. Assumes nothing.
use mathlib.Core.Path.{◌≡◌}
use Prim.Native.Nat.{ℕ}
use native.Mathlib.Omega.{arith}
use Rattle.book.specs.Words.{vol}
use Rattle.book.specs.Image.{pages}
use Rattle.who.specs.Turns.{positions, turns, kind_page}
use Rattle.who.proofs.Leasts.{least_past}
use Rattle.who.proofs.ByKind.{kind-files, kind-below}
use Rattle.who.proofs.kinds.kind_from.Goals as goal

pub returns-then-kind-gt7 : goal.returns-then-kind-gt7
returns-then-kind-gt7 c = (kind-files (pages c.args.img.now) (vol c.args.img.now) c.args.p c.args.x turns c.files_from.result c.args.kind c.if-kind-gt7.true c.files_from.ensures.0, c.files_from.ensures.1)

pub returns-then-x-gt-POSITIONS : goal.returns-then-x-gt-POSITIONS
returns-then-x-gt-POSITIONS c =
    (λ y h l e. omega (arith, kind-below (pages c.args.img.now) (vol c.args.img.now) c.requires.1.within (omega (arith, c.requires.0.few)) c.args.p c.requires.0.page c.args.kind y (omega arith) e), c.requires.0)

pub returns : goal.returns
returns c = let P = pages c.args.img.now in let v = vol c.args.img.now in (
  least_past (λ (y : ℕ). kind_page P v c.args.kind y ≡ c.args.p) c.args.x positions turns c.system_from.result (omega arith)
      (λ y e. kind-below P v c.requires.1.within (omega (arith, c.requires.0.few)) c.args.p c.requires.0.page c.args.kind y (omega arith) e) c.system_from.ensures.0,
  c.system_from.ensures.1,
)
