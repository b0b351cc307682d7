use mathlib.Core.Path.{◌≡◌, ap, ◌∙◌, subst}
use Prim.Native.Nat.{ℕ, ◌+◌, ◌-◌, ◌*◌}
use native.Mathlib.Omega.{arith}
use Rattle.book.specs.Entries.{entry_word, user_page}
use Rattle.book.specs.Words.{vol}
use Rattle.salvage.specs.Row.{RowTells}
use Rattle.salvage.proofs.Collecting.{same-page}
use Rattle.salvage.proofs.collect.note_users.Goals as goal

pub loop-u-init : goal.loop-u-init
loop-u-init c = let e : 1024 * c.args.q ≡ 1024 * c.args.q + 32 * (c.args.first - c.args.first) = omega arith in subst (λ (i : ℕ). RowTells c.args.img.now i c.args.row.now c.args.n) e c.requires.7

pub note_user-m-requires : goal.note_user-m-requires
note_user-m-requires c =
    let k : ℕ = c.loop-u.u - c.args.first in
    let s : c.args.first + k ≡ c.loop-u.u = omega arith in
    let e : 1024 * c.args.q + 32 * k ≡ 1024 * c.args.q + entry_word c.loop-u.u = omega (arith, c.requires.2) in
    (c.requires.0, c.requires.1, omega (arith, c.requires.2, c.requires.3), c.requires.4, c.requires.5, same-page _ c.args.q c.args.first k c.requires.2 (omega arith) c.requires.6 ∙ ap (user_page (vol c.args.img.now)) s, subst (λ (i : ℕ). RowTells c.args.img.now i c.loop-u.row c.loop-u.m) e c.loop-u.invariant)

pub loop-u-preserved : goal.loop-u-preserved
loop-u-preserved c =
    let e : 1024 * c.args.q + entry_word c.loop-u.u + 32 ≡ 1024 * c.args.q + 32 * (c.loop-u.u + 1 - c.args.first) = omega (arith, c.requires.2) in
    subst (λ (i : ℕ). RowTells c.args.img.now i c.note_user-m.new.row c.note_user-m.result) e c.note_user-m.ensures

pub returns : goal.returns
returns c = let e : 1024 * c.args.q + 32 * (c.loop-u.u - c.args.first) ≡ 1024 * c.args.q + 1024 = omega arith in
    subst (λ (i : ℕ). RowTells c.args.img.now i c.loop-u.row c.loop-u.m) e c.loop-u.invariant
