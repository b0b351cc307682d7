use mathlib.Core.Path.{◌≡◌}
use Rattle.book.specs.Words.{zeros}
use Rattle.page.specs.Parts.{Begins}
use Rattle.tree.proofs.block.blank.Given as goal

abbrev pub invariant-loop-w : goal.invariant-loop-w
invariant-loop-w l = (l.any ≡ 0 → Begins l.w-index l.part zeros) × (Begins l.w-index l.part zeros → l.any ≡ 0)
