use native.Mathlib.Omega.{arith}
use mathlib.Core.Path.{◌≡◌, sym, ◌∙◌}
use Rattle.book.specs.Words.{vol}
use Rattle.tree.proofs.Entries.{absent-flags, there-flags}
use Rattle.tree.proofs.entry.entry_flags.Goals as goal

pub returns-then-q-eq0 : goal.returns-then-q-eq0
returns-then-q-eq0 c = let v = vol c.args.img.now in let z : c.args.q ≡ 0 = omega arith in (sym (absent-flags v c.args.q c.args.n c.args.k z), omega arith)

pub returns : goal.returns
returns c = let v = vol c.args.img.now in (c.flags_at.ensures.0 ∙ there-flags v c.args.q c.args.n c.of.result.word c.args.k (omega arith) c.of.ensures.1, c.flags_at.ensures.1)
