-- `convert::field::byte_for` meets its contract. Assumes nothing.
use mathlib.Core.Path.{◌≡◌, sym, ◌∙◌}
use mathlib.Core.List.{[], ◌∷◌}
use Prim.Native.Nat.{ℕ, suc, ◌-◌, ◌≤◌, ◌<◌}
use native.Mathlib.Omega.{arith}
use lib.ListN.{get_or}
use Rattle.sums.specs.Search.{pick_yes, pick_no}
use Rattle.convert.specs.Bytes.{byte_for}
use Rattle.convert.proofs.field.byte_for.Goals as goal

-- of the name, and behind it
within : (b i l c : ℕ) → i < l → b ≡ byte_for b i l c
unfolding byte_for
within b i l c h = sym (pick_yes _ b _ (omega arith))

after : (b i l c : ℕ) → l ≤ i → get_or (c ∷ []) (i - l) 0 ≡ byte_for b i l c
unfolding byte_for
after b i l c h = sym (pick_no _ b _ (let e : 1 - (suc i - l) ≡ 0 = omega arith in e))

pub returns-then-i-l : goal.returns-then-i-l
returns-then-i-l c = (within _ _ _ _ (omega arith), omega arith)

pub returns-else-i-l : goal.returns-else-i-l
returns-else-i-l c = (c.behind.ensures ∙ after c.args.b c.args.i c.args.l c.args.mark (omega arith), omega arith)
