-- `seek::needs::need` meets its contract. Assumes nothing.
use Rattle.std.proofs.Common.{◌≡◌, ℕ, ◌%◌, ap, ◌∙◌, arith}
use Rattle.sums.specs.Sum.{is, is_same, is-other}
use Rattle.book.specs.Files.{need}
use Rattle.seek.proofs.needs.need.Goals as goal

pub returns-then-n-eq512 : goal.returns-then-n-eq512
unfolding need is
returns-then-n-eq512 c = omega arith

pub returns-then-n-eq0 : goal.returns-then-n-eq0
unfolding need
returns-then-n-eq0 c = let n : ℕ = c.args.n in
    let z : n % 512 ≡ 0 = omega arith in
    omega (arith, is-other n 512 c.if-n-eq512.false, ap (λ (x : ℕ). is x 0) z ∙ is_same 0)

pub returns-else-n-eq0 : goal.returns-else-n-eq0
unfolding need
returns-else-n-eq0 c = let n : ℕ = c.args.n in
    omega (arith, is-other n 512 c.if-n-eq512.false, is-other (n % 512) 0 c.if-n-eq0.false)
