-- `who::tell::holder_at` meets its contract. Assumes nothing.
use mathlib.Core.Path.{◌≡◌, ap, ◌∙◌}
use Prim.Native.Nat.{ℕ, suc, ◌-◌, ◌/◌, ◌%◌}
use native.Mathlib.Omega.{arith}
use Rattle.who.specs.Turns.{positions, turns, holder_by, holder_at}
use Rattle.who.proofs.tell.holder_at.Goals as goal

pub returns-then-kind-lt8 : goal.returns-then-kind-lt8
unfolding holder_at
returns-then-kind-lt8 c = c.system_holder.ensures (c.args.x % turns / positions)

pub returns : goal.returns
unfolding holder_at holder_by
returns c = let k = c.args.x / turns in
    let q : suc (suc (suc (suc (suc (suc (suc (suc (k - 8)))))))) ≡ k = omega arith in
    c.file_holder.ensures ∙ ap (λ (j : ℕ). holder_by j (c.args.x % turns / positions) (c.args.x % positions)) q
