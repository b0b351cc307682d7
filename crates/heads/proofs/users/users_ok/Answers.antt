use native.Mathlib.Omega.{arith}
use Rattle.std.proofs.Common.{rules}
use Rattle.book.specs.Words.{vol}
use Rattle.book.specs.Entries.{user}
use Rattle.heads.specs.Fine.{UserFine}
use Rattle.heads.proofs.Each.{pages-all}
use Rattle.heads.proofs.users.users_ok.Goals as goal

pub returns : goal.returns
returns c = pages-all (UserFine c.args.ten (user (vol c.args.img.now))) 0 8 (omega arith) c.all.result c.all.ensures.ran (λ k t q m. search rules)
