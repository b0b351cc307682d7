-- `sound::judge_few` meets its contract. Assumes nothing.
use native.Mathlib.Omega.{arith}
use Rattle.bits.proofs.Marked.{unmarked-for}
use Rattle.sound.proofs.judge_few.Goals as goal

pub judge_marked-requires : goal.judge_marked-requires
judge_marked-requires c = (c.requires.0, c.requires.1, c.requires.2, c.requires.3, unmarked-for _ 16384 (omega (arith, c.requires.1, c.requires.4)) _ c.few_marks-marks.ensures)
