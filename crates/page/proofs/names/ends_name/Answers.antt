-- `page::names::ends_name` meets its contract. Assumes nothing.
use mathlib.Core.Path.{◌≡◌, ap}
use Prim.Native.Nat.{ℕ, ◌<◌}
use native.Mathlib.Decide.{ℕ_discrete}
use native.Mathlib.Omega.{arith}
use lib.Dec.{eqb}
use Rattle.sums.specs.Sum.{is_same}
use Rattle.book.specs.Names.{ends}
use Rattle.page.proofs.Deciding.{decides-iff, decides_eq}
use Rattle.laws.specs.File.Stored.{ends-not}
use Rattle.page.proofs.names.ends_name.Goals as goal

apostrophe-ends : (b : ℕ) → b ≡ 39 → 0 < ends b
unfolding ends
apostrophe-ends b e = omega (arith, ap ends e, is_same 39)

zero-ends : (b : ℕ) → b ≡ 0 → 0 < ends b
unfolding ends
zero-ends b e = omega (arith, ap ends e, is_same 0)

pub returns-then-b-eq-APOSTROPHE : goal.returns-then-b-eq-APOSTROPHE
returns-then-b-eq-APOSTROPHE c = decides-iff (eqb c.args.b 39) (c.args.b ≡ 39) (0 < ends c.args.b) (apostrophe-ends c.args.b) (λ h. c.if-b-eq-APOSTROPHE.true) (decides_eq c.args.b 39)

pub returns-else-b-eq-APOSTROPHE : goal.returns-else-b-eq-APOSTROPHE
returns-else-b-eq-APOSTROPHE c =
    decides-iff (eqb c.args.b 0) (c.args.b ≡ 0) (0 < ends c.args.b) (zero-ends c.args.b) (λ h. elim (ℕ_discrete c.args.b 0) [
      | yes e ↦ e
      | no n ↦ absurd (let r : ⊥ = omega (arith, h, ends-not c.args.b c.if-b-eq-APOSTROPHE.false n) in r)
    ]) (decides_eq c.args.b 0)
