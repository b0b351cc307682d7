use mathlib.Core.Path.{◌≡◌, refl, sym, ◌∙◌, subst}
use Prim.Native.Nat.{ℕ, ◌+◌, ◌*◌}
use native.Mathlib.Omega.{arith}
use Rattle.page.proofs.Deciding.{told, untold}
use Rattle.salvage.specs.Row.{RowTells}
use Rattle.salvage.proofs.Collecting.{users-reach, bits_below, run-page, skip, other-is, other-stays, none_more}
use Rattle.salvage.proofs.collect.note_page.Goals as goal

pub is_among-requires : goal.is_among-requires
is_among-requires c = omega (arith, (bits_below _ c.requires.0 c.args.b c.requires.3).1, c.requires.0.good.whole.most)

pub note_bits-requires : goal.note_bits-requires
note_bits-requires c = (c.requires.0, c.requires.1, refl, c.requires.3, run-page (told c.is_among.result _ c.is_among.ensures c.if-is_among.true) c.bit_pages.ensures, c.requires.6)

pub returns-then-is_among : goal.returns-then-is_among
returns-then-is_among c = c.note_bits.ensures

pub loop-i-init : goal.loop-i-init
loop-i-init c = ((λ j h. absurd (let r : ⊥ = omega (arith, h) in r)), c.requires.6)

pub user_page-requires : goal.user_page-requires
user_page-requires c = users-reach _ c.requires.0

pub note_users-requires : goal.note_users-requires
note_users-requires c = (c.requires.0, c.requires.2, omega arith, omega arith, c.requires.4, c.requires.5, sym c.if-user_page-p.true ∙ c.user_page.ensures.0, c.loop-i.invariant.1)

pub returns-then-user_page-p : goal.returns-then-user_page-p
returns-then-user_page-p c = c.note_users.ensures

pub loop-i-preserved : goal.loop-i-preserved
loop-i-preserved c = (none_more _ _ c.loop-i.i c.user_page.result c.user_page.ensures.0 c.loop-i.invariant.0 c.if-user_page-p.false, c.loop-i.invariant.1)

pub returns : goal.returns
returns c =
    let o = other-is _ c.requires.0 c.args.b c.requires.3 c.args.p (λ f. untold c.is_among.result _ c.is_among.ensures c.if-is_among.false (run-page f (sym c.bit_pages.ensures))) (λ j h. c.loop-i.invariant.0 j (omega arith)) in
    let z : 1024 * c.args.p ≡ 1024 * c.args.p + 0 = omega arith in
    skip _ c.requires.0 c.args.p 0 1024 (omega arith) (omega arith) (λ k x y. other-stays _ c.requires.0 c.args.p c.requires.4 o k) _ _ (subst (λ (j : ℕ). RowTells c.args.img.now j c.loop-i.row c.args.n) z c.loop-i.invariant.1)
