use mathlib.Core.Path.{refl}
use native.Mathlib.Omega.{arith}
use Rattle.salvage.proofs.Collecting.{long, room, noted}
use Rattle.salvage.proofs.collect.note_word.Goals as goal

pub note-requires : goal.note-requires
note-requires c = (omega (arith, c.requires.2, long _ c.requires.0, c.requires.0.good.whole.most), room _ c.requires.0 _ _ _ c.requires.1, c.requires.1.size)

pub returns : goal.returns
returns c = noted _ c.requires.0 c.args.i _ _ c.requires.1 c.requires.2 _ _ refl c.requires.3 _ _ c.note.ensures
