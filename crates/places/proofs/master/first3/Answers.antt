use Rattle.places.specs.Found.{Finds}
use Rattle.book.specs.Places.{Filled, pointers, spots3}
use Rattle.heads.proofs.Heads.{users-inside}
use Rattle.book.specs.Image.{pages}
use Rattle.book.specs.Words.{vol}
use native.Mathlib.Omega.{arith}
use Prim.Native.Nat.{ℕ}
use mathlib.Core.Path.{subst}
use borrow.Author.Rules.{rules}
use Rattle.places.proofs.master.first3.Goals as goal

pub block-requires : goal.block-requires
block-requires c = record { count = search rules; most = omega arith; inside = omega (arith, users-inside _ _ c.requires.2 (omega arith)) }

pub returns : goal.returns
unfolding spots3
returns c = subst (λ (t : ℕ). Finds (pointers (vol c.args.img.now) t (Filled (pages c.args.img.now) 0 8)) c.block.result) c.page_at-top.ensures.0 c.block.ensures
