-- `seek::free::free_file` meets its contract. Assumes nothing.
use Rattle.std.proofs.Common.{◌≡◌, ℕ, ◌<◌, ◌∙◌, arith, rules, tests}
use Rattle.std.proofs.lemmas.Iterator.{first_from_Range}
use Rattle.book.specs.Words.{vol}
use Rattle.book.specs.Entries.{object, used, file_entry, new_file}
use Rattle.seek.proofs.Search.{first-lowest}
use Rattle.seek.proofs.free.free_file.Goals as goal

pub returns : goal.returns
unfolding new_file
returns c =
    let F : ℕ → ℕ = λ f. used (object (vol c.args.img.now) (file_entry c.args.u f)) in
    let l = first-lowest F 256 _ (first_from_Range _ _ _ _ (λ f. F f ≡ 0) (λ f. 0 < F f) c.find.ensures.ran (λ x q k. search (rules, tests)) (λ x q k. search (rules, tests))) in
    (c.unwrap_or.ensures ∙ l.0, omega (arith, c.unwrap_or.ensures, l.1))
