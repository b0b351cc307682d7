-- `salvage::collect::note_bits` meets its contract. Assumes nothing.
use mathlib.Core.Path.{◌≡◌, subst}
use Prim.Native.Nat.{ℕ, ◌+◌, ◌-◌, ◌*◌, ◌/◌}
use native.Mathlib.Omega.{arith}
use Rattle.salvage.specs.Row.{RowTells}
use Rattle.salvage.proofs.Collecting.{full-right}
use Rattle.salvage.proofs.collect.note_bits.Goals as goal

pub overflow_sub-first : goal.overflow_sub-first
overflow_sub-first c = omega (arith, c.requires.4)

pub overflow_mul-first : goal.overflow_mul-first
overflow_mul-first c = omega (arith, c.requires.0.good.whole.most, c.requires.4)

pub overflow_add-next : goal.overflow_add-next
overflow_add-next c = omega (arith, c.requires.0.good.whole.most, c.requires.4)

pub loop-k-init : goal.loop-k-init
loop-k-init c =
    let e : 1024 * c.args.p ≡ 1024 * c.args.b + 1024 * (c.args.p - c.args.b) = omega (arith, c.requires.4) in
    subst (λ (i : ℕ). RowTells c.args.img.now i c.args.row.now c.args.n) e c.requires.5

pub bounds-marks-k : goal.bounds-marks-k
bounds-marks-k c = omega (arith, c.requires.1.room, c.requires.2, c.loop-k-test.true, c.min-full.ensures)

pub note_bit_word-m-requires : goal.note_bit_word-m-requires
note_bit_word-m-requires c = (c.requires.0, c.requires.3, omega (arith, c.requires.2, c.loop-k-test.true, c.min-full.ensures), full-right _ c.requires.0 c.args.b c.requires.3 _ c.requires.1 c.loop-k.k (omega (arith, c.requires.2, c.loop-k-test.true, c.min-full.ensures)), c.loop-k.invariant)

pub loop-k-preserved : goal.loop-k-preserved
loop-k-preserved c =
    let e : 1024 * c.args.b + c.loop-k.k + 1 ≡ 1024 * c.args.b + (c.loop-k.k + 1) = omega arith in
    subst (λ (i : ℕ). RowTells c.args.img.now i c.note_bit_word-m.new.row c.note_bit_word-m.result) e c.note_bit_word-m.ensures

pub note_last-requires : goal.note_last-requires
note_last-requires c =
    let e : 1024 * c.args.b + c.loop-k.k ≡ 1024 * c.args.b + c.args.total / 16 = omega (arith, c.min-full.ensures, c.if-full-next.true, c.loop-k-test.false) in
    (c.requires.0, c.requires.1, c.requires.2, c.requires.3, c.requires.4, omega (arith, c.min-full.ensures, c.if-full-next.true), subst (λ (i : ℕ). RowTells c.args.img.now i c.loop-k.row c.loop-k.m) e c.loop-k.invariant)

pub returns-then-full-next : goal.returns-then-full-next
returns-then-full-next c = c.note_last.ensures

pub returns : goal.returns
returns c =
    let e : 1024 * c.args.b + c.loop-k.k ≡ 1024 * c.args.p + 1024 = omega (arith, c.requires.4, c.min-full.ensures, c.if-full-next.false, c.loop-k-test.false) in
    subst (λ (i : ℕ). RowTells c.args.img.now i c.loop-k.row c.loop-k.m) e c.loop-k.invariant
