-- `who::blocks::slots_from` meets its contract. Assumes nothing.
use mathlib.Core.Path.{◌≡◌}
use Prim.Native.Nat.{ℕ}
use Rattle.book.specs.Words.{vol}
use Rattle.book.specs.Pointers.{slot}
use Rattle.who.specs.Least.{Never}
use Rattle.who.proofs.blocks.slots_from.Given as goal

abbrev pub invariant-loop-k : goal.invariant-loop-k
invariant-loop-k l = Never (λ (i : ℕ). slot (vol l.img) l.b i ≡ l.p) l.n l.k
