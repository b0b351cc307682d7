use borrow.Author.Tests.{not-false}
use native.Mathlib.Omega.{arith}
use Rattle.book.specs.Decides.{holds, fails}
use Rattle.laws.specs.Count.Reach.{below-objects}
use Rattle.sound.proofs.Laws.{low-1, low-2, low-3, low-4, low-5, low-6, low-7}
use borrow.Author.Rules.{rules}
use Rattle.sound.proofs.early.early.Goals as goal

pub returns-then-not-rule1 : goal.returns-then-not-rule1
returns-then-not-rule1 c = low-1 _ _ _ (fails c.rule1.result _ c.rule1.ensures c.if-not-rule1.true-raw)

pub returns-then-not-rule2 : goal.returns-then-not-rule2
returns-then-not-rule2 c = low-2 _ _ _ (holds c.rule1.result _ c.rule1.ensures c.if-not-rule1.false-raw) (fails c.rule2.result _ c.rule2.ensures c.if-not-rule2.true-raw)

pub rule3-requires : goal.rule3-requires
rule3-requires c = (c.requires, search rules, (holds c.rule2.result _ c.rule2.ensures c.if-not-rule2.false-raw))

pub returns-then-not-rule3 : goal.returns-then-not-rule3
returns-then-not-rule3 c =
    low-3 _ _ _ (holds c.rule1.result _ c.rule1.ensures c.if-not-rule1.false-raw) (holds c.rule2.result _ c.rule2.ensures c.if-not-rule2.false-raw)
    (fails c.rule3.result _ c.rule3.ensures c.if-not-rule3.true-raw)

pub rule4-requires : goal.rule4-requires
rule4-requires c = (c.requires, (holds c.rule2.result _ c.rule2.ensures c.if-not-rule2.false-raw), (holds c.rule3.result _ c.rule3.ensures c.if-not-rule3.false-raw), c.room-table.ensures)

pub returns-then-not-rule4 : goal.returns-then-not-rule4
returns-then-not-rule4 c =
    low-4 _ _ _ (holds c.rule1.result _ c.rule1.ensures c.if-not-rule1.false-raw) (holds c.rule2.result _ c.rule2.ensures c.if-not-rule2.false-raw)
    (holds c.rule3.result _ c.rule3.ensures c.if-not-rule3.false-raw) (fails c.rule4.result _ c.rule4.ensures.0 c.if-not-rule4.true-raw)

pub rule5-requires : goal.rule5-requires
rule5-requires c = (c.requires, search rules, (holds c.rule2.result _ c.rule2.ensures c.if-not-rule2.false-raw), (holds c.rule3.result _ c.rule3.ensures c.if-not-rule3.false-raw))

pub returns-then-not-rule5 : goal.returns-then-not-rule5
returns-then-not-rule5 c =
    low-5 _ _ _ (holds c.rule1.result _ c.rule1.ensures c.if-not-rule1.false-raw) (holds c.rule2.result _ c.rule2.ensures c.if-not-rule2.false-raw)
    (holds c.rule3.result _ c.rule3.ensures c.if-not-rule3.false-raw) (holds c.rule4.result _ c.rule4.ensures.0 c.if-not-rule4.false-raw)
    (fails c.rule5.result _ c.rule5.ensures c.if-not-rule5.true-raw)

pub object_ends-ends-requires : goal.object_ends-ends-requires
object_ends-ends-requires c = record { some = omega (arith, c.requires.least); below = below-objects _ _ (holds c.rule2.result _ c.rule2.ensures c.if-not-rule2.false-raw) (holds c.rule5.result _ c.rule5.ensures c.if-not-rule5.false-raw) }

pub rule6-requires : goal.rule6-requires
rule6-requires c = (
  c.requires,
  (holds c.rule2.result _ c.rule2.ensures c.if-not-rule2.false-raw),
  (holds c.rule3.result _ c.rule3.ensures c.if-not-rule3.false-raw),
  (holds c.rule5.result _ c.rule5.ensures c.if-not-rule5.false-raw),
  c.object_ends-ends.ensures,
  c.rule4.ensures.1 (not-false _ c.if-not-rule4.false-raw),
)

pub returns-then-not-rule6 : goal.returns-then-not-rule6
returns-then-not-rule6 c =
    low-6 _ _ _ (holds c.rule1.result _ c.rule1.ensures c.if-not-rule1.false-raw) (holds c.rule2.result _ c.rule2.ensures c.if-not-rule2.false-raw)
    (holds c.rule3.result _ c.rule3.ensures c.if-not-rule3.false-raw) (holds c.rule4.result _ c.rule4.ensures.0 c.if-not-rule4.false-raw)
    (holds c.rule5.result _ c.rule5.ensures c.if-not-rule5.false-raw) (fails c.rule6.result _ c.rule6.ensures c.if-not-rule6.true-raw)

pub rule7-requires : goal.rule7-requires
rule7-requires c = (c.requires, search rules, (holds c.rule2.result _ c.rule2.ensures c.if-not-rule2.false-raw), (holds c.rule5.result _ c.rule5.ensures c.if-not-rule5.false-raw), c.object_ends-ends.ensures)

pub returns-then-not-rule7 : goal.returns-then-not-rule7
returns-then-not-rule7 c =
    low-7 _ _ _ (holds c.rule1.result _ c.rule1.ensures c.if-not-rule1.false-raw) (holds c.rule2.result _ c.rule2.ensures c.if-not-rule2.false-raw)
    (holds c.rule3.result _ c.rule3.ensures c.if-not-rule3.false-raw) (holds c.rule4.result _ c.rule4.ensures.0 c.if-not-rule4.false-raw)
    (holds c.rule5.result _ c.rule5.ensures c.if-not-rule5.false-raw) (holds c.rule6.result _ c.rule6.ensures c.if-not-rule6.false-raw)
    (fails c.rule7.result _ c.rule7.ensures c.if-not-rule7.true-raw)

pub returns : goal.returns
returns c = (
  record {
    r1 = holds c.rule1.result _ c.rule1.ensures c.if-not-rule1.false-raw;
    r2 = holds c.rule2.result _ c.rule2.ensures c.if-not-rule2.false-raw;
    r3 = holds c.rule3.result _ c.rule3.ensures c.if-not-rule3.false-raw;
    r4 = holds c.rule4.result _ c.rule4.ensures.0 c.if-not-rule4.false-raw;
    r5 = holds c.rule5.result _ c.rule5.ensures c.if-not-rule5.false-raw;
    r6 = holds c.rule6.result _ c.rule6.ensures c.if-not-rule6.false-raw;
    r7 = holds c.rule7.result _ c.rule7.ensures c.if-not-rule7.false-raw;
  },
  c.object_ends-ends.ensures,
)
