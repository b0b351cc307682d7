-- `salvage::mend_kept` meets its contract. Assumes nothing.
use native.Mathlib.Omega.{arith}
use Rattle.bits.proofs.Marked.{unmarked-for}
use Rattle.salvage.proofs.mend_kept.Goals as goal

pub mend_marked-requires : goal.mend_marked-requires
mend_marked-requires c = (c.requires.0, c.requires.1, c.requires.2, c.requires.3, unmarked-for _ 16384 (omega arith) _ c.few_marks-marks.ensures)

pub mend_marked-requires-2 : goal.mend_marked-requires-2
mend_marked-requires-2 c = (c.requires.0, c.requires.1, c.requires.2, c.requires.3, unmarked-for _ 140733 c.requires.0.most _ c.most_marks-marks.ensures)
