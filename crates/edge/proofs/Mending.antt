-- From what salvage says of its row to what a C caller's list is filled from. Assumes nothing.
use mathlib.Core.List.{List}
use Rattle.std.proofs.Common.{Result}
use Prim.Native.Nat.{ℕ}
use native.Mathlib.Omega.{arith}
use Rattle.book.specs.Answers.{numbers}
use Rattle.book.specs.declared.Refusal.{Refusal}
use Rattle.salvage.specs.Mending.{Mends, mends-counted, mends-fits}
use Rattle.edge.specs.Replied.{Spelled}
use Rattle.edge.specs.Salvages.{Mended}
use Rattle.edge.specs.declared.spell.Reply.{Reply}

pub mended-as : (img : List ℕ) (room : ℕ) (a : Result ℕ Refusal) (img' row' : List ℕ) (r : Reply) → Mends img room a img' row' → Spelled (numbers a) r → Mended img room r img' row'
mended-as img room a img' row' r m s = let w = mends-fits img room a img' row' m in record {
  numbers = numbers a;
  outcome = m.outcome;
  spelled = s;
  told = m.told;
  counted = mends-counted img room a img' row' m;
  few = omega (arith, s.1, w.0);
  short = omega (arith, s.1, w.1);
}
