-- `sound::judge_most` meets its contract. Assumes nothing.
use Rattle.bits.proofs.Marked.{unmarked-for}
use Rattle.sound.proofs.judge_most.Goals as goal

pub judge_marked-requires : goal.judge_marked-requires
judge_marked-requires c = (c.requires.0, c.requires.1, c.requires.2, c.requires.3, unmarked-for _ 140733 c.requires.0.most _ c.most_marks-marks.ensures)
