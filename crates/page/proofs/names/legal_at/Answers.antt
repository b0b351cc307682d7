-- `page::names::legal_at` meets its contract. Assumes nothing.
use mathlib.Core.Path.{subst}
use Prim.Native.Nat.{ℕ, ◌<◌}
use native.Mathlib.Omega.{arith}
use Rattle.book.specs.Words.{vol}
use Rattle.book.specs.Names.{ends}
use Rattle.book.specs.Decides.{Decides}
use Rattle.page.proofs.Deciding.{decides_le-yes, decides_le-no}
use Rattle.page.proofs.Stored.{legal-few, legal-all, legal-by}
use Rattle.page.proofs.names.legal_at.Goals as goal

pub returns-else-m-l : goal.returns-else-m-l
returns-else-m-l c = decides_le-no c.args.m _ _ (omega arith) (legal-few c.args.m c.args.n (vol c.args.img.now c.args.p) c.args.k c.letters_at-l.result c.letters_at-l.ensures (omega arith))

pub returns-then-n-l : goal.returns-then-n-l
returns-then-n-l c = decides_le-yes c.args.n _ _ (omega arith) (legal-all c.args.m c.args.n (vol c.args.img.now c.args.p) c.args.k c.letters_at-l.result c.letters_at-l.ensures (omega arith) (omega arith))

pub returns-else-n-l : goal.returns-else-n-l
returns-else-n-l c =
    legal-by c.args.m c.args.n (vol c.args.img.now c.args.p) c.args.k c.letters_at-l.result c.letters_at-l.ensures c.ends_name.result (omega arith) (omega arith)
    (subst (λ (x : ℕ). Decides c.ends_name.result (0 < ends x)) c.byte_at.ensures c.ends_name.ensures)
