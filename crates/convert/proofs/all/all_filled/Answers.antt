-- `convert::all::all_filled` meets its contract. Assumes nothing.
use Rattle.std.proofs.Common.{ℕ, refl, arith, rules, tests}
use Rattle.std.proofs.lemmas.Iterator.{cases_from_all, YieldsList-from_range}
use Rattle.book.specs.Words.{vol}
use Rattle.seek.proofs.Search.{all-range}
use Rattle.convert.specs.Kinds.{FilledAt}
use Rattle.convert.proofs.all.all_filled.Goals as goal

pub returns : goal.returns
returns c =
    let A : ℕ → Type 0 = FilledAt c.args.typed c.args.mark (vol c.args.img.now) in
    all-range A c.args.count _ (cases_from_all _ _ _ A (λ n. A n → ⊥) c.all.ensures.ran (YieldsList-from_range 0 c.args.count c.args.count refl (omega arith)) (λ x q k. search (rules, tests)) (λ x q k. search (rules, tests)))
