use Prim.Native.Nat.{◌+◌, ◌*◌}
use Rattle.book.specs.Words.{vol}
use Rattle.book.specs.Trees.{root_by}
use Rattle.book.specs.Entries.{entry}
use Rattle.heads.specs.Span.{Span}
use Rattle.heads.specs.Stamps.{Stamped}
use Rattle.heads.specs.Twins.{Fresh}
use Rattle.heads.proofs.twins.apart.Given as goal

abbrev pub invariant-loop-k : goal.invariant-loop-k
invariant-loop-k l = Span (Fresh (entry (vol l.img) (root_by l.pointer.flags l.pointer.page 0)) l.n l.base) l.base (l.base + 32 * l.k) × Stamped (entry (vol l.img) (root_by l.pointer.flags l.pointer.page 0)) l.n l.base (l.base + 32 * l.k) l.table
