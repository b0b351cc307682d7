use Rattle.places.proofs.All.{room_of, root-same, run_none}
use Rattle.places.proofs.Steps.{none₂}
use Rattle.walk.proofs.Holding.{below-same, files-fit}
use Rattle.walk.proofs.Entries.{read-file}
use Rattle.tree.proofs.Entries.{file-in-none}
use Rattle.book.specs.Decides.{holds, fails}
use Rattle.book.specs.Image.{pages}
use Rattle.book.specs.Words.{vol}
use Rattle.book.specs.Holders.{hit}
use Rattle.places.proofs.held.meet_file.Goals as goal

pub returns-then-not-entry_used : goal.returns-then-not-entry_used
returns-then-not-entry_used c = let P = pages c.args.img.now in let v = vol c.args.img.now in
    none₂ P v _ _ _ _ c.requires.0.index c.requires.0.subindex c.requires.0.room _
    (λ p. run_none v _ (file-in-none v c.args.e c.object_page-q.result c.object_page-q.ensures.0 (fails c.entry_used.result _ c.entry_used.ensures c.if-not-entry_used.true-raw)) (hit p))

pub meet_root-requires : goal.meet_root-requires
meet_root-requires c =
    let P = pages c.args.img.now in let v = vol c.args.img.now in let r = room_of _ _ _ _ _ c.requires.0 in
    (r.0, r.1, r.2, below-same v P _ _ (read-file v c.args.e c.object_page-q.result c.object_page-q.ensures.0 (holds c.entry_used.result _ c.entry_used.ensures c.if-not-entry_used.false-raw) c.entry_pointer-pointer.result.flags c.entry_pointer-pointer.result.page c.entry_two-count.result c.entry_pointer-pointer.ensures.flags.0 c.entry_pointer-pointer.ensures.page.0 c.entry_two-count.ensures.0) ((files-fit _ c.requires.0.volume).below c.args.e c.requires.1))

pub returns : goal.returns
returns c =
    let P = pages c.args.img.now in let v = vol c.args.img.now in
    root-same P v _ _ _ _ c.requires.0.index c.requires.0.subindex _ _
    (read-file v c.args.e c.object_page-q.result c.object_page-q.ensures.0 (holds c.entry_used.result _ c.entry_used.ensures c.if-not-entry_used.false-raw) c.entry_pointer-pointer.result.flags c.entry_pointer-pointer.result.page c.entry_two-count.result c.entry_pointer-pointer.ensures.flags.0 c.entry_pointer-pointer.ensures.page.0 c.entry_two-count.ensures.0)
    _ _ _ _ c.meet_root.ensures
