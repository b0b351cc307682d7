use mathlib.Core.Path.{◌≡◌, subst}
use Prim.Native.Nat.{ℕ}
use native.Mathlib.Omega.{arith}
use Rattle.book.specs.Words.{vol}
use Rattle.salvage.specs.Facts.{CountsBelow}
use Rattle.salvage.proofs.Counting.{counted_start, counted-more}
use Rattle.salvage.proofs.counts.count_all.Goals as goal

pub loop-u-init : goal.loop-u-init
loop-u-init c = counted_start _ _ c.requires.3

pub user_pages-n-requires : goal.user_pages-n-requires
user_pages-n-requires c = (c.requires.0, c.requires.1, omega arith)

pub given_to-requires : goal.given_to-requires
given_to-requires c = c.requires.2

pub returns-then-given_to-n : goal.returns-then-given_to-n
returns-then-given_to-n c = (c.loop-u.u, omega arith, omega (arith, c.given_to.ensures, c.user_pages-n.ensures, c.if-given_to-n.true))

pub loop-u-preserved : goal.loop-u-preserved
loop-u-preserved c = counted-more _ _ c.loop-u.u _ c.loop-u.invariant (omega arith) c.user_pages-n.ensures.0 (omega arith)

pub returns : goal.returns
returns c = let e : c.loop-u.u ≡ 256 = omega arith in subst (λ (n : ℕ). CountsBelow (vol c.args.img.now) n c.loop-u.counts) e c.loop-u.invariant
