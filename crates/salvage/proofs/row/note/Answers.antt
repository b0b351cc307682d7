use Rattle.salvage.proofs.Rows.{noted-same, noted-told}
use Rattle.salvage.proofs.row.note.Goals as goal

pub returns-then-old-x : goal.returns-then-old-x
returns-then-old-x c = noted-same _ _ _ _ _ c.if-old-x.true

pub returns : goal.returns
returns c = noted-told _ _ _ _ _ _ c.if-old-x.false c.packed_at.ensures
