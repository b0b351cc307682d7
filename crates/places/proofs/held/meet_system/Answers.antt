use Rattle.places.proofs.All.{room_of, meeting-on, root-same, bits_met, system-met}
use Rattle.walk.proofs.Holding.{bits_below, below-same}
use Rattle.tree.proofs.Reach.{user-root, object-root}
use Rattle.book.specs.Bits.{bit_pages}
use Rattle.book.specs.Image.{pages}
use Rattle.book.specs.Words.{vol}
use native.Mathlib.Omega.{arith}
use mathlib.Core.Path.{ap, ◌∙◌}
use Rattle.places.proofs.held.meet_system.Goals as goal

pub meet_run-low-requires : goal.meet_run-low-requires
meet_run-low-requires c = let P = pages c.args.img.now in let v = vol c.args.img.now in
    (c.requires.0.room, omega (arith, c.requires.0.volume.whole.most, bits_below P v c.page_at-start.result c.bit_pages.result c.page_at-start.ensures.0 (c.bit_pages.ensures ∙ ap bit_pages c.requires.1) c.requires.0.volume.within.bits))

pub meet_root-next-requires : goal.meet_root-next-requires
meet_root-next-requires c =
    let P = pages c.args.img.now in let v = vol c.args.img.now in
    let r = room_of _ _ _ _ _ (meeting-on _ _ _ _ _ c.requires.0 P v _ _ _ _ _ (bits_met P v _ _ _ _ c.requires.0.index c.requires.0.subindex c.page_at-start.result c.bit_pages.result c.page_at-start.ensures.0 (c.bit_pages.ensures ∙ ap bit_pages c.requires.1) _ _ c.meet_run-low.ensures)) in
    (r.0, r.1, r.2, below-same v P _ _ (user-root v c.pointer_at-users.result.flags c.pointer_at-users.result.page c.pointer_at-users.ensures.flags.0 c.pointer_at-users.ensures.page.0) c.requires.0.volume.within.users)

pub meet_root-requires : goal.meet_root-requires
meet_root-requires c =
    let P = pages c.args.img.now in let v = vol c.args.img.now in
    let M1 = meeting-on _ _ _ _ _ c.requires.0 P v _ _ _ _ _ (bits_met P v _ _ _ _ c.requires.0.index c.requires.0.subindex c.page_at-start.result c.bit_pages.result c.page_at-start.ensures.0 (c.bit_pages.ensures ∙ ap bit_pages c.requires.1) _ _ c.meet_run-low.ensures) in
    let r = room_of _ _ _ _ _ (meeting-on _ _ _ _ _ M1 P v _ _ _ _ _ (root-same P v _ _ _ _ M1.index M1.subindex _ _ (user-root v c.pointer_at-users.result.flags c.pointer_at-users.result.page c.pointer_at-users.ensures.flags.0 c.pointer_at-users.ensures.page.0) _ _ _ _ c.meet_root-next.ensures)) in
    (r.0, r.1, r.2, below-same v P _ _ (object-root v c.pointer_at-objects.result.flags c.pointer_at-objects.result.page c.pointer_at-objects.ensures.flags.0 c.pointer_at-objects.ensures.page.0) c.requires.0.volume.within.objs)

pub returns : goal.returns
returns c =
    let P = pages c.args.img.now in let v = vol c.args.img.now in
    let b = (bits_met P v _ _ _ _ c.requires.0.index c.requires.0.subindex c.page_at-start.result c.bit_pages.result c.page_at-start.ensures.0 (c.bit_pages.ensures ∙ ap bit_pages c.requires.1) _ _ c.meet_run-low.ensures) in
    let M1 = meeting-on _ _ _ _ _ c.requires.0 P v _ _ _ _ _ b in
    let u = (root-same P v _ _ _ _ M1.index M1.subindex _ _ (user-root v c.pointer_at-users.result.flags c.pointer_at-users.result.page c.pointer_at-users.ensures.flags.0 c.pointer_at-users.ensures.page.0) _ _ _ _ c.meet_root-next.ensures) in
    let M2 = meeting-on _ _ _ _ _ M1 P v _ _ _ _ _ u in
    system-met P v _ _ _ _ c.requires.0.index c.requires.0.subindex _ _ _ _ _ _ _ _ _ _ _ _ b u
    (root-same P v _ _ _ _ M2.index M2.subindex _ _ (object-root v c.pointer_at-objects.result.flags c.pointer_at-objects.result.page c.pointer_at-objects.ensures.flags.0 c.pointer_at-objects.ensures.page.0) _ _ _ _ c.meet_root.ensures)
