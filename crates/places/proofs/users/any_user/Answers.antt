use Rattle.places.specs.Found.{UserAt}
use Rattle.places.proofs.Owners.{unused-on, user-at}
use Rattle.places.proofs.Finding.{finds-when, unused-all}
use Rattle.book.specs.Places.{user_spots}
use Rattle.book.specs.Entries.{user, used}
use Rattle.book.specs.Words.{vol}
use Rattle.book.specs.Decides.{holds, fails}
use Rattle.places.proofs.users.any_user.Goals as goal

pub returns-then-not-entry_used : goal.returns-then-not-entry_used
returns-then-not-entry_used c =
    unused-all (used (user (vol c.args.img.now) c.args.u)) _
    (unused-on _ c.args.pointer.flags c.args.pointer.page c.root_page-q.result c.args.u c.requires.0 c.root_page-q.ensures.0 (fails c.entry_used.result _ c.entry_used.ensures c.if-not-entry_used.true-raw))

pub used_user-requires : goal.used_user-requires
used_user-requires c = user-at _ c.args.pointer.flags c.args.pointer.page c.root_page-q.result c.args.u c.requires.0 c.requires.1 c.root_page-q.ensures (holds c.entry_used.result _ c.entry_used.ensures c.if-not-entry_used.false-raw)

pub returns : goal.returns
returns c =
    let u : UserAt c.args.img.now c.args.pointer.flags c.args.pointer.page c.root_page-q.result c.args.u = user-at _ c.args.pointer.flags c.args.pointer.page c.root_page-q.result c.args.u c.requires.0 c.requires.1 c.root_page-q.ensures (holds c.entry_used.result _ c.entry_used.ensures c.if-not-entry_used.false-raw) in
    finds-when (used (user (vol c.args.img.now) c.args.u)) (user_spots c.args.ten (vol c.args.img.now) c.args.u) u.used c.used_user.result c.used_user.ensures
