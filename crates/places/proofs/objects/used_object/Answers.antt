use native.Mathlib.Omega.{arith}
use Rattle.book.specs.Decides.{holds, fails}
use Rattle.places.proofs.Owned.{used-there, owner-read, owner-none, name-wrong, type-wrong, whose-wrong, number-wrong, object-right}
use Rattle.places.proofs.objects.used_object.Goals as goal

pub returns-then-not-entry_used : goal.returns-then-not-entry_used
returns-then-not-entry_used c =
    owner-none c.args.img.now c.args.pointer.flags c.args.pointer.page c.args.q c.args.u c.args.f c.requires _ c.place_of.ensures
    (fails c.entry_used.result _ (owner-read c.args.img.now c.args.pointer.flags c.args.pointer.page c.args.q c.args.u c.args.f c.requires c.entry_used.result c.user_page-p.result c.user_page-p.ensures.0 c.entry_used.ensures) c.if-not-entry_used.true-raw)

pub name_ok-requires : goal.name_ok-requires
name_ok-requires c = (c.requires.on, c.requires.inside, used-there c.args.img.now c.args.pointer.flags c.args.pointer.page c.args.q c.args.u c.args.f c.requires, omega arith, omega arith)

pub returns-then-not-name_ok : goal.returns-then-not-name_ok
returns-then-not-name_ok c =
    let own = holds c.entry_used.result _ (owner-read c.args.img.now c.args.pointer.flags c.args.pointer.page c.args.q c.args.u c.args.f c.requires c.entry_used.result c.user_page-p.result c.user_page-p.ensures.0 c.entry_used.ensures) c.if-not-entry_used.false-raw in
    name-wrong c.args.img.now c.args.pointer.flags c.args.pointer.page c.args.q c.args.u c.args.f c.requires _ own c.place_of-then-not-name_ok.ensures (fails c.name_ok.result _ c.name_ok.ensures c.if-not-name_ok.true-raw)

pub returns-then-not-entry_legal : goal.returns-then-not-entry_legal
returns-then-not-entry_legal c =
    let own = holds c.entry_used.result _ (owner-read c.args.img.now c.args.pointer.flags c.args.pointer.page c.args.q c.args.u c.args.f c.requires c.entry_used.result c.user_page-p.result c.user_page-p.ensures.0 c.entry_used.ensures) c.if-not-entry_used.false-raw in
    type-wrong c.args.img.now c.args.pointer.flags c.args.pointer.page c.args.q c.args.u c.args.f c.requires _ own (holds c.name_ok.result _ c.name_ok.ensures c.if-not-name_ok.false-raw) c.place_of-then-not-entry_legal.ensures
    (fails c.entry_legal.result _ c.entry_legal.ensures c.if-not-entry_legal.true-raw)

pub returns-then-entry_word-u : goal.returns-then-entry_word-u
returns-then-entry_word-u c =
    let own = holds c.entry_used.result _ (owner-read c.args.img.now c.args.pointer.flags c.args.pointer.page c.args.q c.args.u c.args.f c.requires c.entry_used.result c.user_page-p.result c.user_page-p.ensures.0 c.entry_used.ensures) c.if-not-entry_used.false-raw in
    whose-wrong c.args.img.now c.args.pointer.flags c.args.pointer.page c.args.q c.args.u c.args.f c.requires _ own (holds c.name_ok.result _ c.name_ok.ensures c.if-not-name_ok.false-raw) (holds c.entry_legal.result _ c.entry_legal.ensures c.if-not-entry_legal.false-raw)
    c.entry_word.result c.entry_word.ensures c.place_of-then-entry_word-u.ensures (λ i. omega arith)

pub returns-then-entry_word-e : goal.returns-then-entry_word-e
returns-then-entry_word-e c =
    let own = holds c.entry_used.result _ (owner-read c.args.img.now c.args.pointer.flags c.args.pointer.page c.args.q c.args.u c.args.f c.requires c.entry_used.result c.user_page-p.result c.user_page-p.ensures.0 c.entry_used.ensures) c.if-not-entry_used.false-raw in
    number-wrong c.args.img.now c.args.pointer.flags c.args.pointer.page c.args.q c.args.u c.args.f c.requires _ own (holds c.name_ok.result _ c.name_ok.ensures c.if-not-name_ok.false-raw) (holds c.entry_legal.result _ c.entry_legal.ensures c.if-not-entry_legal.false-raw)
    c.entry_word.result c.entry_word.ensures (omega arith) c.place_of-then-entry_word-e.ensures c.entry_word-2.result c.entry_word-2.ensures (λ i. omega arith)

pub returns : goal.returns
returns c =
    let own = holds c.entry_used.result _ (owner-read c.args.img.now c.args.pointer.flags c.args.pointer.page c.args.q c.args.u c.args.f c.requires c.entry_used.result c.user_page-p.result c.user_page-p.ensures.0 c.entry_used.ensures) c.if-not-entry_used.false-raw in
    object-right c.args.img.now c.args.pointer.flags c.args.pointer.page c.args.q c.args.u c.args.f c.requires own (holds c.name_ok.result _ c.name_ok.ensures c.if-not-name_ok.false-raw) (holds c.entry_legal.result _ c.entry_legal.ensures c.if-not-entry_legal.false-raw)
    c.entry_word.result c.entry_word.ensures (omega arith) c.entry_word-2.result c.entry_word-2.ensures (omega arith)
