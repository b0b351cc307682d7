use native.Mathlib.Omega.{arith}
use Rattle.std.proofs.Common.{rules}
use Rattle.book.specs.Words.{vol}
use Rattle.book.specs.Trees.{root_by}
use Rattle.book.specs.Entries.{user, entry}
use Rattle.heads.specs.Fine.{FileFine}
use Rattle.heads.proofs.Each.{pages-all}
use Rattle.heads.proofs.objects.files_ok.Goals as goal

pub returns : goal.returns
returns c = let v = vol c.args.img.now in pages-all (FileFine (user v) (entry v (root_by c.args.pointer.flags c.args.pointer.page 0))) 0 c.args.ends (omega arith) c.all.result c.all.ensures.ran (λ k t q m. search rules)
