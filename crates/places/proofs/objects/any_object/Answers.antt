use Rattle.book.specs.Decides.{holds, fails}
use Rattle.book.specs.Entries.{object, used, file_entry}
use Rattle.book.specs.Words.{vol}
use Rattle.places.specs.Rows.{UsedObject}
use Rattle.places.proofs.Finding.{finds-when, unused-all}
use Rattle.places.proofs.Owned.{object-unused, object-used}
use Rattle.places.proofs.objects.any_object.Goals as goal

pub returns-then-not-entry_used : goal.returns-then-not-entry_used
returns-then-not-entry_used c =
    unused-all (used (object (vol c.args.img.now) (file_entry c.args.u c.args.f))) _
    (object-unused c.args.img.now c.args.pointer.flags c.args.pointer.page c.requires.0 c.root_page-q.result (file_entry c.args.u c.args.f) c.root_page-q.ensures.0 (fails c.entry_used.result _ c.entry_used.ensures c.if-not-entry_used.true-raw))

pub used_object-requires : goal.used_object-requires
used_object-requires c = object-used c.args.img.now c.args.pointer.flags c.args.pointer.page c.requires.0 c.root_page-q.result c.args.u c.args.f c.requires.1 c.requires.2 c.root_page-q.ensures (holds c.entry_used.result _ c.entry_used.ensures c.if-not-entry_used.false-raw)

pub returns : goal.returns
returns c =
    let d : UsedObject c.args.img.now c.args.pointer.flags c.args.pointer.page c.root_page-q.result c.args.u c.args.f =
    object-used c.args.img.now c.args.pointer.flags c.args.pointer.page c.requires.0 c.root_page-q.result c.args.u c.args.f c.requires.1 c.requires.2 c.root_page-q.ensures (holds c.entry_used.result _ c.entry_used.ensures c.if-not-entry_used.false-raw) in
    finds-when (used (object (vol c.args.img.now) (file_entry c.args.u c.args.f))) _ d.used c.used_object.result c.used_object.ensures
