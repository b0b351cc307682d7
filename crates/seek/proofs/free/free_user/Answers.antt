-- `seek::free::free_user` meets its contract. Assumes nothing.
use Rattle.std.proofs.Common.{◌≡◌, ℕ, ◌<◌, ◌∙◌, arith, rules, tests}
use Rattle.std.proofs.lemmas.Iterator.{first_from_Range}
use Rattle.book.specs.Words.{vol}
use Rattle.book.specs.Entries.{user, used, new_user}
use Rattle.seek.proofs.Search.{first-lowest}
use Rattle.seek.proofs.free.free_user.Goals as goal

pub returns : goal.returns
unfolding new_user
returns c =
    let F : ℕ → ℕ = λ u. used (user (vol c.args.img.now) u) in
    let l = first-lowest F 256 _ (first_from_Range _ _ _ _ (λ u. F u ≡ 0) (λ u. 0 < F u) c.find.ensures.ran (λ x q k. search (rules, tests)) (λ x q k. search (rules, tests))) in
    (c.unwrap_or.ensures ∙ l.0, omega (arith, c.unwrap_or.ensures, l.1))
