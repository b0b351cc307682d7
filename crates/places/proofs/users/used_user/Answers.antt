use native.Mathlib.Omega.{arith}
use Rattle.book.specs.Decides.{holds, fails}
use Rattle.places.proofs.Owners.{used-there, name-wrong, used_over, own-wrong, user-right}
use Rattle.places.proofs.users.used_user.Goals as goal

pub name_ok-requires : goal.name_ok-requires
name_ok-requires c = (c.requires.on, c.requires.inside, used-there _ c.args.pointer.flags c.args.pointer.page c.args.q c.args.u c.requires, omega arith, omega arith)

pub returns-then-not-name_ok : goal.returns-then-not-name_ok
returns-then-not-name_ok c = name-wrong _ c.args.pointer.flags c.args.pointer.page c.args.q c.args.u c.requires _ _ c.place_of.ensures (fails c.name_ok.result _ c.name_ok.ensures c.if-not-name_ok.true-raw)

pub returns-then-not-within : goal.returns-then-not-within
returns-then-not-within c = used_over _ c.args.pointer.flags c.args.pointer.page c.args.q c.args.u c.requires _ _ (holds c.name_ok.result _ c.name_ok.ensures c.if-not-name_ok.false-raw) c.place_of-then-not-within.ensures (fails c.within.result _ c.within.ensures c.if-not-within.true-raw)

pub returns-then-not-own : goal.returns-then-not-own
returns-then-not-own c =
    own-wrong _ c.args.pointer.flags c.args.pointer.page c.args.q c.args.u c.requires _ _ (holds c.name_ok.result _ c.name_ok.ensures c.if-not-name_ok.false-raw) (holds c.within.result _ c.within.ensures c.if-not-within.false-raw)
    c.place_of-then-not-own.ensures (fails c.own.result _ c.own.ensures c.if-not-own.true-raw)

pub returns : goal.returns
returns c =
    user-right _ c.args.pointer.flags c.args.pointer.page c.args.q c.args.u c.requires _ (holds c.name_ok.result _ c.name_ok.ensures c.if-not-name_ok.false-raw) (holds c.within.result _ c.within.ensures c.if-not-within.false-raw)
    (holds c.own.result _ c.own.ensures c.if-not-own.false-raw)
