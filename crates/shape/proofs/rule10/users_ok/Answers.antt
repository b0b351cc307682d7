use Prim.Native.Nat.{◌+◌, ◌*◌, ◌/◌}
use native.Mathlib.Omega.{arith}
use Rattle.std.proofs.Common.{rules}
use Rattle.book.specs.Words.{vol}
use Rattle.page.proofs.Deciding.{decides-iff}
use Rattle.shape.specs.Counts.{UsersRight}
use Rattle.shape.proofs.Each.{each-all}
use Rattle.shape.proofs.rule10.users_ok.Goals as goal

pub returns : goal.returns
returns c = let v = vol c.args.img.now in
    decides-iff c.all.result _ _
    (λ f u l h. f (u / 32) (omega arith) (omega arith) u (omega arith) (omega arith))
    (λ f k l h u i j. f u (omega arith) (omega arith))
    (each-all (λ k. UsersRight v (32 * k) (32 * k + 32)) 0 8 (omega arith) c.all.result c.all.ensures.ran (λ k t f m. search rules))
