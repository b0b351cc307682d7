-- `seek::find::find_in` meets its contract. Assumes nothing.
use Rattle.std.proofs.Common.{ℕ, ◌+◌, ◌*◌, ◌<◌, option_copied}
use Rattle.book.specs.Words.{vol}
use Rattle.book.specs.Trees.{root_by}
use Rattle.book.specs.Entries.{entry}
use Rattle.seek.specs.Search.{Fits}
use Rattle.seek.proofs.find.find_in.Given as goal

abbrev pub invariant-loop-i : goal.invariant-loop-i
invariant-loop-i l = (n : ℕ) → n < 32 * l.i → Fits l.name (option_copied l.kind) (entry (vol l.img) (root_by l.pointer.flags l.pointer.page 0) (32 * l.b + n)) → ⊥
