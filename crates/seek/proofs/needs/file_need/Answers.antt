-- `seek::needs::file_need` meets its contract. Assumes nothing.
use Rattle.book.specs.Create.{file_need}
use Rattle.tree.proofs.Ready.{ready-objects}
use native.Mathlib.Omega.{arith}
use Rattle.seek.proofs.needs.file_need.Goals as goal

pub object_page-requires : goal.object_page-requires
object_page-requires c = ready-objects _ c.requires.0

pub returns : goal.returns
unfolding file_need
returns c = omega arith
