-- `page::names::letters_at` meets its contract. Assumes nothing.
use Prim.Native.Nat.{ℕ, ◌*◌, ◌<◌}
use Rattle.book.specs.Words.{vol}
use Rattle.book.specs.Names.{Letter, byte_at}
use Rattle.page.proofs.names.letters_at.Given as goal

-- both bytes of each word passed are letters
abbrev pub invariant-loop-i : goal.invariant-loop-i
invariant-loop-i l = (j : ℕ) → j < 2 * l.i → Letter (byte_at (vol l.img l.p) l.k j)
