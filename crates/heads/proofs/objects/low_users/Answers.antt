use native.Mathlib.Omega.{arith}
use Rattle.std.proofs.Common.{rules}
use Rattle.book.specs.Words.{vol}
use Rattle.book.specs.Entries.{user}
use Rattle.heads.specs.Fine.{Unused}
use Rattle.heads.proofs.Each.{pages-all}
use Rattle.heads.proofs.objects.low_users.Goals as goal

pub returns : goal.returns
returns c = pages-all (Unused (user (vol c.args.img.now))) 2 8 (omega arith) c.all.result c.all.ensures.ran (λ k t q m. search rules)
