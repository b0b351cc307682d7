use mathlib.Core.Path.{subst}
use Prim.Native.Nat.{ℕ}
use native.Mathlib.Omega.{arith}
use Rattle.book.specs.Words.{vol}
use Rattle.book.specs.Image.{pages}
use Rattle.book.specs.Rules.{Rule3}
use Rattle.book.specs.Decides.{Decides}
use Rattle.heads.specs.Slots.{Slots}
use Rattle.heads.proofs.Heads.{users-inside}
use borrow.Author.Rules.{rules}
use Rattle.heads.proofs.master.rule3.Goals as goal

pub block_ok-requires : goal.block_ok-requires
block_ok-requires c = (record { count = search rules; most = omega arith; inside = omega (arith, users-inside _ _ c.requires.2 (omega arith)) }, omega arith)

pub returns : goal.returns
unfolding Rule3 Slots
returns c = subst (λ (t : ℕ). Decides c.block_ok.result (Slots (pages c.args.img.now) (vol c.args.img.now) t 8)) c.page_at-top.ensures.0 c.block_ok.ensures
