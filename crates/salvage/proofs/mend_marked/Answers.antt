use mathlib.Core.Bool.{false}
use mathlib.Core.List.{[]}
use mathlib.Core.Path.{refl}
use Rattle.sound.proofs.Laws.{early-within, early-short, low-8}
use Rattle.walk.proofs.Judged.{held_on, held-met, met-rule8, held-rule8}
use Rattle.salvage.proofs.Closing.{early-pointed, refused-3}
use Rattle.salvage.proofs.mend_marked.Goals as goal

pub mark_all-requires : goal.mark_all-requires
mark_all-requires c = (c.requires.4, record { whole = c.requires.0; within = early-within _ _ c.requires.1; short = early-short _ _ c.requires.1 }, refl, c.requires.2)

pub tell-requires : goal.tell-requires
tell-requires c = record { whole = c.requires.0; lowest = low-8 false _ _ c.requires.1 (met-rule8 _ _ [] (held-met _ _ _ c.mark_all.result c.mark_all.ensures c.in_default.is)) }

pub returns-in_default : goal.returns-in_default
returns-in_default c = refused-3 _ _ _ c.requires.3 c.requires.0 c.tell.result c.tell.ensures

pub mend_good-requires : goal.mend_good-requires
mend_good-requires c =
    let k = held_on _ _ _ c.mark_all.result c.mark_all.ensures _ c.in-Some.is in
    (record { whole = c.requires.0; pointed = early-pointed _ _ c.requires.1 (held-rule8 _ _ _ _ k) }, record { held = k.held; room = k.room }, k.count, c.requires.2, c.requires.3)
