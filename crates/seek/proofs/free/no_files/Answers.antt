-- `seek::free::no_files` meets its contract. Assumes nothing.
use Rattle.std.proofs.Common.{◌≡◌, ℕ, refl, rules, tests}
use Rattle.std.proofs.lemmas.Iterator.{cases_from_all, YieldsList-from_range}
use Rattle.book.specs.Words.{vol}
use Rattle.book.specs.Entries.{object, used, file_entry}
use Rattle.seek.proofs.Search.{all-range}
use Rattle.seek.proofs.free.no_files.Goals as goal

pub returns : goal.returns
returns c =
    let A : ℕ → Type 0 = λ f. used (object (vol c.args.img.now) (file_entry c.args.u f)) ≡ 0 in
    all-range A 256 _ (cases_from_all _ _ _ A (λ f. A f → ⊥) c.all.ensures.ran (YieldsList-from_range 0 256 256 (cc) refl) (λ x q k. search (rules, tests)) (λ x q k. search (rules, tests)))
