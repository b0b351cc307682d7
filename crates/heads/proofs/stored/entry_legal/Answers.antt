use mathlib.Core.Path.{subst}
use mathlib.Core.List.{List}
use Prim.Native.Nat.{ℕ}
use Rattle.book.specs.Words.{vol}
use Rattle.book.specs.Names.{Text}
use Rattle.book.specs.Decides.{Decides}
use Rattle.tree.proofs.Entries.{there-stored}
use Rattle.heads.proofs.stored.entry_legal.Goals as goal

pub returns : goal.returns
returns c = subst (λ (t : List ℕ). Decides c.legal_at.result (Text c.args.m c.args.n t)) (there-stored (vol c.args.img.now) c.args.q c.args.e c.of-w.result.word c.args.k c.args.n c.requires.0 c.of-w.ensures.1) c.legal_at.ensures
