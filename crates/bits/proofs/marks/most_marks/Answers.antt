-- `bits::marks::most_marks` meets its contract. Assumes nothing.
use native.Mathlib.Omega.{arith}
use Rattle.bits.proofs.Marked.{no-marks}
use Rattle.bits.proofs.marks.most_marks.Goals as goal

pub returns : goal.returns
returns c = no-marks 140733 8796 (omega arith)
