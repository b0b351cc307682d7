use mathlib.Core.Path.{◌≡◌}
use lib.ListN.{length}
use Rattle.book.specs.Words.{vol}
use Rattle.book.specs.Trees.{root_by}
use Rattle.book.specs.Entries.{entry}
use Rattle.heads.specs.Span.{Span}
use Rattle.heads.specs.Twins.{FilesApart}
use Rattle.heads.proofs.objects.all_apart.Given as goal

abbrev pub invariant-loop-u : goal.invariant-loop-u
invariant-loop-u l = (length l.table ≡ 4096) × Span (FilesApart (entry (vol l.img) (root_by l.pointer.flags l.pointer.page 0))) 0 l.u
