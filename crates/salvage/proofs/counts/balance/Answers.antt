use mathlib.Core.Path.{refl, ◌∙◌}
use native.Mathlib.Omega.{arith}
use borrow.Author.Tests.{not-true, not-false}
use Rattle.shape.proofs.Objects.{objects-at}
use Rattle.shape.proofs.Users.{reach-users}
use Rattle.salvage.proofs.Counting.{counting-yes, counting-no, holds_more, sum_below, sum-leaves, sum-small}
use Rattle.salvage.proofs.counts.balance.Goals as goal

pub count_all-requires : goal.count_all-requires
count_all-requires c = (objects-at c.args.img.now _ _ c.requires.0.whole c.requires.0.pointed.r2 c.requires.0.pointed.r5 c.pointer_at-pointer.ensures.flags.0 c.pointer_at-pointer.ensures.page.0, c.requires.3, reach-users c.args.img.now c.requires.0.whole c.requires.0.pointed.r2 c.requires.0.pointed.r3, c.requires.4)

pub returns-then-not-count_all : goal.returns-then-not-count_all
returns-then-not-count_all c = (refl, holds_more _ _ c.requires.0.pointed (counting-no _ _ c.count_all.result c.count_all.ensures (not-true _ c.if-not-count_all.true-raw)))

pub sum_counts-requires : goal.sum_counts-requires
sum_counts-requires c = (counting-yes _ _ c.count_all.result c.count_all.ensures (not-false _ c.if-not-count_all.false-raw)).size

pub users_sum-requires : goal.users_sum-requires
users_sum-requires c = (reach-users c.args.img.now c.requires.0.whole c.requires.0.pointed.r2 c.requires.0.pointed.r3, omega arith)

pub returns-then-have-spent : goal.returns-then-have-spent
returns-then-have-spent c = let C = counting-yes _ _ c.count_all.result c.count_all.ensures (not-false _ c.if-not-count_all.false-raw) in (
  refl,
  sum_below _ _ c.requires.0.pointed _ C c.args.total _ _ c.from.result
      c.requires.1 c.sum_counts.ensures.0 c.users_sum.ensures.0 (c.from.ensures ∙ c.requires.2) c.if-have-spent.true,
)

pub overflow_cast-result : goal.overflow_cast-result
overflow_cast-result c = let C = counting-yes _ _ c.count_all.result c.count_all.ensures (not-false _ c.if-not-count_all.false-raw) in
    let l = sum-small _ _ c.requires.0.pointed _ C c.args.total _ _ c.from.result
    c.requires.1 c.sum_counts.ensures.0 c.users_sum.ensures.0 (c.from.ensures ∙ c.requires.2) in
    omega (arith, l, c.requires.0.whole.most)

pub returns : goal.returns
returns c = let C = counting-yes _ _ c.count_all.result c.count_all.ensures (not-false _ c.if-not-count_all.false-raw) in
    sum-leaves _ _ c.requires.0.pointed _ C c.args.total _ _ c.from.result
    c.requires.1 c.sum_counts.ensures.0 c.users_sum.ensures.0 (c.from.ensures ∙ c.requires.2) (omega arith)
