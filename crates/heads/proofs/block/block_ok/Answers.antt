use mathlib.Core.Path.{subst}
use Prim.Native.Nat.{ℕ}
use Rattle.book.specs.Decides.{Decides}
use Rattle.book.specs.Words.{vol}
use Rattle.heads.specs.Slots.{Slots}
use Rattle.heads.proofs.Slots.{slots-absent, decides-slots}
use native.Mathlib.Omega.{arith}
use Rattle.heads.proofs.block.block_ok.Goals as goal

pub returns-then-b-eq0 : goal.returns-then-b-eq0
returns-then-b-eq0 c = slots-absent _ _ _ _ (omega arith) (omega arith)

pub returns : goal.returns
returns c =
    subst (λ (P : ℕ). Decides c.filled.result (Slots P (vol c.args.img.now) c.args.b c.args.m)) c.requires.0.count
    (decides-slots c.args.img.now c.args.total c.args.b c.args.m (omega arith) (omega arith) (omega arith) c.filled.result c.filled.ensures)
