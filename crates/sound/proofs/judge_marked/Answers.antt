use mathlib.Core.List.{[]}
use native.Mathlib.Omega.{arith}
use Rattle.book.specs.Decides.{holds, fails}
use Rattle.walk.proofs.Judged.{held_on, held-met, met-rule8, held-rule8, held-visits}
use Rattle.sound.proofs.Laws.{early-within, early-short, late-8, late-9, late-10, nine-bits, bits-nine, bits-here}
use Rattle.sound.proofs.judge_marked.Goals as goal

pub mark_all-requires : goal.mark_all-requires
mark_all-requires c = (c.requires.4, record { whole = c.requires.0; within = early-within _ _ c.requires.2; short = early-short _ _ c.requires.2 }, c.requires.1, c.requires.3)

pub returns-in_default : goal.returns-in_default
returns-in_default c = late-8 _ _ (met-rule8 _ _ [] (held-met _ _ _ c.mark_all.result c.mark_all.ensures c.in_default.is))

pub same_bits-requires : goal.same_bits-requires
same_bits-requires c = (omega (arith, c.requires.1), bits-here _ _ c.args.total _ c.requires.1 c.requires.2.r1 c.page_at-b.ensures.0, omega (arith, c.requires.1, (held_on _ _ _ c.mark_all.result c.mark_all.ensures _ c.in-Some.is).room))

pub returns-then-not-same_bits : goal.returns-then-not-same_bits
returns-then-not-same_bits c = let k = held_on _ _ _ c.mark_all.result c.mark_all.ensures _ c.in-Some.is in
    late-9 _ _ (held-rule8 _ _ _ _ k) (λ r. fails c.same_bits.result _ c.same_bits.ensures c.if-not-same_bits.true-raw (nine-bits _ _ _ _ k c.args.total c.requires.1 r))

pub rule10-requires : goal.rule10-requires
rule10-requires c = (c.requires.0, c.requires.1, c.requires.2.r2, c.requires.2.r3, c.requires.2.r5, c.requires.2.r6, c.requires.2.r7, (held_on _ _ _ c.mark_all.result c.mark_all.ensures _ c.in-Some.is).count, c.requires.3)

pub returns-then-not-rule10 : goal.returns-then-not-rule10
returns-then-not-rule10 c = let k = held_on _ _ _ c.mark_all.result c.mark_all.ensures _ c.in-Some.is in
    late-10 _ _ (held-rule8 _ _ _ _ k) (bits-nine _ _ _ _ k c.args.total c.requires.1 (holds c.same_bits.result _ c.same_bits.ensures c.if-not-same_bits.false-raw)) (fails c.rule10.result _ c.rule10.ensures c.if-not-rule10.true-raw)

pub returns : goal.returns
returns c = let k = held_on _ _ _ c.mark_all.result c.mark_all.ensures _ c.in-Some.is in (
  record { r8 = held-rule8 _ _ _ _ k; r9 = (bits-nine _ _ _ _ k c.args.total c.requires.1 (holds c.same_bits.result _ c.same_bits.ensures c.if-not-same_bits.false-raw)); r10 = holds c.rule10.result _ c.rule10.ensures c.if-not-rule10.false-raw },
  held-visits _ _ _ _ k (omega arith) (early-within _ _ c.requires.2),
)
