use mathlib.Core.Path.{sym, subst}
use mathlib.Core.Bool.{Bool}
use Rattle.book.specs.Decides.{Decides}
use Rattle.book.specs.Rules.{Rule10}
use Rattle.page.proofs.Deciding.{told, untold}
use Rattle.book.specs.Image.{pages}
use Rattle.book.specs.Words.{vol}
use Rattle.shape.proofs.Objects.{objects-at}
use Rattle.shape.proofs.Users.{reach-users, decides-10, wrong-10}
use Rattle.shape.proofs.rule10.rule10.Goals as goal

pub users_ok-requires : goal.users_ok-requires
users_ok-requires c = (objects-at c.args.img.now _ _ c.requires.0 c.requires.2 c.requires.4 c.pointer_at-pointer.ensures.flags.0 c.pointer_at-pointer.ensures.page.0, c.requires.8, reach-users c.args.img.now c.requires.0 c.requires.2 c.requires.3)

pub sum_ok-requires : goal.sum_ok-requires
sum_ok-requires c = (c.requires.0, c.requires.1, reach-users c.args.img.now c.requires.0 c.requires.2 c.requires.3, c.requires.7, c.requires.5, c.requires.6, told c.users_ok.result _ c.users_ok.ensures c.if-users_ok.true)

pub returns-then-users_ok : goal.returns-then-users_ok
returns-then-users_ok c = decides-10 (pages c.args.img.now) (vol c.args.img.now) c.requires.6 c.sum_ok.result (told c.users_ok.result _ c.users_ok.ensures c.if-users_ok.true) c.sum_ok.ensures

pub returns-else-users_ok : goal.returns-else-users_ok
returns-else-users_ok c = let P = pages c.args.img.now in let v = vol c.args.img.now in
    subst (λ (b : Bool). Decides b (Rule10 P v)) (sym c.if-users_ok.false) (wrong-10 P v c.requires.6 (untold c.users_ok.result _ c.users_ok.ensures c.if-users_ok.false))
