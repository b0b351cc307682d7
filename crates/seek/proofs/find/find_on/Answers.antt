-- `seek::find::find_on` meets its contract. Assumes nothing.
use Rattle.std.proofs.Common.{ℕ, option_copied, arith, rules, tests}
use Rattle.std.proofs.lemmas.Iterator.{first_from_Range}
use Rattle.book.specs.Words.{vol}
use Rattle.tree.specs.Reach.{entry_in}
use Rattle.seek.specs.Search.{Fits}
use Rattle.seek.proofs.Search.{absent-used, first-found}
use Rattle.seek.proofs.find.find_on.Goals as goal

pub returns-then-q-eq0 : goal.returns-then-q-eq0
returns-then-q-eq0 c = λ i h. omega (arith, h.1.0, absent-used (vol c.args.img.now) c.args.q i (omega arith))

pub returns : goal.returns
returns c =
    let F : ℕ → Type 0 = λ k. Fits c.args.name.now (option_copied c.args.kind) (entry_in (vol c.args.img.now) c.args.q k) in
    first-found F 32 _ (first_from_Range _ _ _ _ F (λ k. F k → ⊥) c.find.ensures.ran (λ x q k. search (rules, tests)) (λ x q k. search (rules, tests)))
