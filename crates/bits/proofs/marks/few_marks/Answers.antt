-- `bits::marks::few_marks` meets its contract. Assumes nothing.
use native.Mathlib.Omega.{arith}
use Rattle.bits.proofs.Marked.{no-marks}
use Rattle.bits.proofs.marks.few_marks.Goals as goal

pub returns : goal.returns
returns c = no-marks 16384 1024 (omega arith)
