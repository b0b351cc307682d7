-- `page::names::text` meets its contract. Assumes nothing.
use Rattle.std.proofs.Common.{ℕ, ◌<◌, ◌≤◌, Bool, true, false, rules, tests}
use mathlib.Core.List.{List}
use native.Mathlib.Omega.{arith}
use lib.ListN.{length}
use Rattle.std.specs.Bool.{MatchBool}
use Rattle.std.specs.List.{AllWithin, HoldsAt}
use Rattle.std.proofs.lemmas.Iterator.{cases_from_all, YieldsList-from_slice}
use Rattle.book.specs.Decides.{Decides}
use Rattle.book.specs.Names.{Letter, Text}
use Rattle.page.proofs.names.text.Goals as goal

text-by : (m n : ℕ) (s : List ℕ) (r : Bool) → m ≤ length s → length s ≤ n → MatchBool r (AllWithin Letter s 0 (length s)) ((k : ℕ) × (k < length s) × HoldsAt (λ b. Letter b → ⊥) s k) → Decides r (Text m n s)
unfolding Text
text-by m n s true a b h = (a, b, λ i l. h i 0 (omega arith) l)
text-by m n s false a b h = λ t. h.2 0 (t.2 h.0 h.1)

pub returns-then-contains : goal.returns-then-contains
returns-then-contains c =
    let g : (c.args.m ≤ length c.args.s.now) × (length c.args.s.now ≤ c.args.n) = search (rules, tests) in
    text-by c.args.m c.args.n c.args.s.now c.all.result g.0 g.1 (cases_from_all _ _ _ Letter (λ b. Letter b → ⊥) c.all.ensures.ran (YieldsList-from_slice c.args.s.now cc) (λ x q k. search (rules, tests)) (λ x q k. search (rules, tests)))

pub returns-else-contains : goal.returns-else-contains
unfolding Text
returns-else-contains c = search (rules, tests)
