use Prim.Native.Nat.{◌+◌, ◌*◌}
use Rattle.book.specs.Entries.{entry, user}
use Rattle.book.specs.Trees.{root_by}
use Rattle.book.specs.Words.{vol}
use Rattle.heads.specs.Fine.{FileFine}
use Rattle.heads.specs.Span.{Span}
use Rattle.places.proofs.objects.each_right.Given as goal

abbrev pub invariant-loop-i : goal.invariant-loop-i
invariant-loop-i l = Span (FileFine (user (vol l.img)) (entry (vol l.img) (root_by l.pointer.flags l.pointer.page 0))) l.base (l.base + 32 * l.i)
